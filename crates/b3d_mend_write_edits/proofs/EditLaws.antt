-- What one edit shows, by its parts, and what each function puts of it.
use mathlib.Core.Path.{◌≡◌, refl, ap, ap₂, ◌∙◌}
use Prim.Native.Nat.{ℕ, ◌+◌, ◌≤◌}
use native.Mathlib.Omega.{arith}
use mathlib.Core.Bool.{Bool, true, false}
use mathlib.Core.List.{List, [], ◌∷◌, ◌++◌, append-nil}
use lib.ListN.{length, take, drop, length-take, length-drop}
use Rattle.wire.specs.Bytes.{bytes}
use Rattle.shared_output.proofs.PartLaws.{Both}
use Rattle.shared_seven_bit_groups.specs.Groups.{groups, write_numbers}
use Rattle.shared_seven_bit_groups.proofs.GroupLaws.{groups-append, numbers-append}
use Rattle.b3d_mend_spec.specs.Edits.{keep, mend, becomes, after}
use Rattle.b3d_mend_spec.specs.Report.{entries, entry_bytes, report_bytes}
use Rattle.shared_put_or_count.specs.Emits.{RoomFrom, Emits}
use Rattle.b3d_mend_write_spec.specs.Shown.{shown}
use Rattle.shared_put_or_count.proofs.PutLaws.{emits_none, fits-first, fits-second, emits_both, fits-same, emits_same}

-- ---- the numbers of an entry

two_both : (n m : ℕ) → Both (write_numbers (n ∷ m ∷ []) []) (groups n []) (groups m [])
unfolding write_numbers
two_both n m = record { is = groups-append n (groups m []) }

module _ (n m : ℕ) (wet : Bool) (xs : List ℕ) (at : ℕ) (f : RoomFrom wet (write_numbers (n ∷ m ∷ []) []) at xs) where
  pub two_first : RoomFrom wet (groups n []) at xs
  two_first = fits-first (two_both n m) wet xs at f

  module _ (ys : List ℕ) (p : ℕ) (e : Emits wet (groups n []) xs at ys p) where
    pub two_second : RoomFrom wet (groups m []) p ys
    two_second = fits-second (two_both n m) wet xs at ys p e f

    pub two_done : (zs : List ℕ) (q : ℕ) → Emits wet (groups m []) ys p zs q → Emits wet (write_numbers (n ∷ m ∷ []) []) xs at zs q
    two_done zs q g = emits_both (two_both n m) wet xs at ys p e zs q g

pub ruleset two_laws = (two_first, two_second, two_done)

four-both : (p k b a : ℕ) → Both (write_numbers (p ∷ k ∷ b ∷ a ∷ []) []) (write_numbers (p ∷ k ∷ []) []) (write_numbers (b ∷ a ∷ []) [])
unfolding write_numbers
four-both p k b a = record { is = numbers-append (p ∷ k ∷ []) (groups b (groups a [])) }

module _ (p k b a : ℕ) (wet : Bool) (xs : List ℕ) (at : ℕ) (f : RoomFrom wet (write_numbers (p ∷ k ∷ b ∷ a ∷ []) []) at xs) where
  pub entry_first : RoomFrom wet (write_numbers (p ∷ k ∷ []) []) at xs
  entry_first = fits-first (four-both p k b a) wet xs at f

  module _ (ys : List ℕ) (m : ℕ) (e : Emits wet (write_numbers (p ∷ k ∷ []) []) xs at ys m) where
    pub entry-second : RoomFrom wet (write_numbers (b ∷ a ∷ []) []) m ys
    entry-second = fits-second (four-both p k b a) wet xs at ys m e f

    pub entry_done : (zs : List ℕ) (q : ℕ) → Emits wet (write_numbers (b ∷ a ∷ []) []) ys m zs q → Emits wet (write_numbers (p ∷ k ∷ b ∷ a ∷ []) []) xs at zs q
    entry_done zs q g = emits_both (four-both p k b a) wet xs at ys m e zs q g

pub ruleset entry_laws = (entry_first, entry-second, entry_done)

-- ---- what stays

kept-report : (report : Bool) (p : ℕ) (b : List ℕ) → report ≡ true → shown report p (keep b ∷ []) ≡ []
unfolding shown entries report_bytes
kept-report report p b e = rw e

kept-file : (report : Bool) (p : ℕ) (b : List ℕ) → report ≡ false → shown report p (keep b ∷ []) ≡ b
unfolding shown after becomes
kept-file report p b e = rw e (append-nil b)

module _ (report : Bool) (p : ℕ) (b : List ℕ) (wet : Bool) (xs : List ℕ) (at : ℕ) where
  pub kept-none : report ≡ true → Emits wet (shown report p (keep b ∷ [])) xs at xs at
  kept-none e = emits_none wet (shown report p (keep b ∷ [])) xs at (kept-report report p b e)

  module _ (e : report ≡ false) where
    pub kept-fits : RoomFrom wet (shown report p (keep b ∷ [])) at xs → RoomFrom wet b at xs
    kept-fits f = fits-same (kept-file report p b e) wet xs at f

    pub kept-done : (ys : List ℕ) (n : ℕ) → Emits wet b xs at ys n → Emits wet (shown report p (keep b ∷ [])) xs at ys n
    kept-done ys n g = emits_same (kept-file report p b e) wet xs at ys n g

pub ruleset kept_laws = (kept-none, kept-fits, kept-done)

-- ---- what is mended

mend-report : (report : Bool) (p k : ℕ) (b a : List ℕ) → report ≡ true → Both (shown report p (mend k b a ∷ [])) (write_numbers (p ∷ k ∷ length b ∷ length a ∷ []) []) (b ++ a)
unfolding shown entries report_bytes entry_bytes
mend-report report p k b a e = record { is = rw (e, append-nil a) (numbers-append (p ∷ k ∷ length b ∷ length a ∷ []) (b ++ a)) }

mend-file : (report : Bool) (p k : ℕ) (b a : List ℕ) → report ≡ false → shown report p (mend k b a ∷ []) ≡ a
unfolding shown after becomes
mend-file report p k b a e = rw e (append-nil a)

-- bytes that are taken out
module _ (file : List ℕ) (from count : ℕ) (inside : from + count ≤ length file) (k : ℕ) (report wet : Bool) (xs : List ℕ) (at : ℕ) where
  abbrev taken : List ℕ
  taken = take count (drop from file)

  long : length taken ≡ count
  long = simp (length-take, length-drop) (omega arith)

  both : report ≡ true → Both (shown report from (mend k taken [] ∷ [])) (write_numbers (from ∷ k ∷ count ∷ 0 ∷ []) []) taken
  both e = record {
    is = (mend-report report from k taken [] e).is ∙ ap₂ (λ (n : ℕ) (l : List ℕ). write_numbers (from ∷ k ∷ n ∷ 0 ∷ []) [] ++ l) long (append-nil taken);
  }

  pub taken_none : report ≡ false → Emits wet (shown report from (mend k taken [] ∷ [])) xs at xs at
  taken_none e = emits_none wet (shown report from (mend k taken [] ∷ [])) xs at (mend-file report from k taken [] e)

  module _ (f : RoomFrom wet (shown report from (mend k taken [] ∷ [])) at xs) (e : report ≡ true) where
    pub taken-entry : RoomFrom wet (write_numbers (from ∷ k ∷ count ∷ 0 ∷ []) []) at xs
    taken-entry = fits-first (both e) wet xs at f

    module _ (ys : List ℕ) (m : ℕ) (g : Emits wet (write_numbers (from ∷ k ∷ count ∷ 0 ∷ []) []) xs at ys m) where
      pub taken-copy : RoomFrom wet taken m ys
      taken-copy = fits-second (both e) wet xs at ys m g f

      pub taken-done : (zs : List ℕ) (o : ℕ) → Emits wet taken ys m zs o → Emits wet (shown report from (mend k taken [] ∷ [])) xs at zs o
      taken-done zs o h = emits_both (both e) wet xs at ys m g zs o h

pub ruleset taken_laws = (taken_none, taken-entry, taken-copy, taken-done)

-- a number that is set to another
module _ (file : List ℕ) (from : ℕ) (inside : from + 4 ≤ length file) (k v : ℕ) (report wet : Bool) (xs : List ℕ) (at : ℕ) where
  abbrev given : List ℕ
  given = take 4 (drop from file)

  four : length given ≡ 4
  four = simp (length-take, length-drop) (omega arith)

  set_both : report ≡ true → Both (shown report from (mend k given (bytes v []) ∷ [])) (write_numbers (from ∷ k ∷ 4 ∷ 4 ∷ []) []) (given ++ bytes v [])
  set_both e = record { is = (mend-report report from k given (bytes v []) e).is ∙ ap (λ (n : ℕ). write_numbers (from ∷ k ∷ n ∷ 4 ∷ []) [] ++ (given ++ bytes v [])) four }

  module _ (f : RoomFrom wet (shown report from (mend k given (bytes v []) ∷ [])) at xs) where
    module _ (e : report ≡ false) where
      pub set_word : RoomFrom wet (bytes v []) at xs
      set_word = fits-same (mend-file report from k given (bytes v []) e) wet xs at f

      pub set-file : (ys : List ℕ) (n : ℕ) → Emits wet (bytes v []) xs at ys n → Emits wet (shown report from (mend k given (bytes v []) ∷ [])) xs at ys n
      set-file ys n g = emits_same (mend-file report from k given (bytes v []) e) wet xs at ys n g

    module _ (e : report ≡ true) where
      pub set-entry : RoomFrom wet (write_numbers (from ∷ k ∷ 4 ∷ 4 ∷ []) []) at xs
      set-entry = fits-first (set_both e) wet xs at f

      module _ (ys : List ℕ) (m : ℕ) (g : Emits wet (write_numbers (from ∷ k ∷ 4 ∷ 4 ∷ []) []) xs at ys m) where
        pub set-behind : RoomFrom wet (given ++ bytes v []) m ys
        set-behind = fits-second (set_both e) wet xs at ys m g f

        pub set-done : (us : List ℕ) (o : ℕ) → Emits wet (given ++ bytes v []) ys m us o → Emits wet (shown report from (mend k given (bytes v []) ∷ [])) xs at us o
        set-done us o i = emits_both (set_both e) wet xs at ys m g us o i

pub ruleset set_laws = (set_word, set-file, set-entry, set-behind, set-done)

-- bytes, then a number
module _ (a : List ℕ) (v : ℕ) (wet : Bool) (xs : List ℕ) (at : ℕ) (f : RoomFrom wet (a ++ bytes v []) at xs) where
  pair : Both (a ++ bytes v []) a (bytes v [])
  pair = record { is = refl }

  pub pair_first : RoomFrom wet a at xs
  pair_first = fits-first pair wet xs at f

  module _ (ys : List ℕ) (m : ℕ) (e : Emits wet a xs at ys m) where
    pub pair_second : RoomFrom wet (bytes v []) m ys
    pair_second = fits-second pair wet xs at ys m e f

    pub pair_done : (zs : List ℕ) (o : ℕ) → Emits wet (bytes v []) ys m zs o → Emits wet (a ++ bytes v []) xs at zs o
    pair_done zs o h = emits_both pair wet xs at ys m e zs o h

pub ruleset pair_laws = (pair_first, pair_second, pair_done)
