-- The list is read back from its bytes.
use mathlib.Core.Path.{◌≡◌, refl, ap, sym, ◌∙◌}
use Prim.Native.Nat.{ℕ, zero, suc, ◌+◌, ◌-◌, ◌*◌, ◌/◌, ◌%◌, ◌<◌, ◌≤◌}
use native.Mathlib.Omega.{arith}
use mathlib.Core.Option.{some}
use mathlib.Core.List.{List, [], ◌∷◌, ◌++◌}
use lib.ListN.{length, get_or, length-append}
use lib.Seq.{take-append_seam, drop-append_seam}
use lib.Dec.{T_not}
use borrow.Author.Tests.{lt-ltb, le-ltb, le-leb}
use Rattle.wire.specs.Test.{if}
use Rattle.layout.proofs.AllLaws.{All}
use Rattle.layout.proofs.ResultLaws.{by_test}
use Rattle.shared_seven_bit_groups.specs.Groups.{front, groups}
use Rattle.shared_seven_bit_groups.proofs.GroupLaws.{front-none, front-more}
use Rattle.b3d_spec.specs.Rebuild.{same, name_from}
use Rattle.b3d_spec.specs.Scene.{Scene}
use Rattle.b3d_compare_spec.specs.declared.WordKind.{WordKind}
use Rattle.b3d_compare_spec.specs.declared.WordKind.TheVariants.{Whole, Float, Name, Length}
use Rattle.b3d_compare_spec.specs.Words.{kind_at}
use Rattle.b3d_compare_spec.specs.Changes.{Cell, number, text, cell_of, cell_at, Change, twelve, changes}
use Rattle.b3d_compare_spec.specs.List.{lead_bytes, text_bytes, change_bytes, list_bytes, take_number, take_text, take_numbers, take_texts, take_cells, take_change, read_in, read_list}
use Rattle.b3d_compare_spec.specs.Compares.{In, EntryIs, Readable}
use Rattle.b3d_compare_spec.proofs.OrderLaws.{all_in}
use Rattle.b3d_compare_spec.proofs.SizeLaws.{some_byte}
use Rattle.b3d_compare_spec.proofs.CellLaws.{same-is, same_self}
use Rattle.b3d_compare_spec.proofs.ExactLaws.{listed-exactly}

-- ---- a number

take_last : (v b : ℕ) (s : List ℕ) → b < 128 → take_number v (b ∷ s) ≡ some (v * 128 + b, s)
unfolding take_number if
take_last v b s h = rw (lt-ltb b 128 h)

take_more : (v b : ℕ) (s : List ℕ) → 128 ≤ b → take_number v (b ∷ s) ≡ take_number (v * 128 + (b - 128)) s
unfolding take_number if
take_more v b s h = rw (le-ltb b 128 h)

front-taken : (m w : ℕ) (r : List ℕ) → w ≤ m → take_number 0 (front w r) ≡ take_number w r
front-taken zero zero r h = rw (front-none r)
front-taken zero (suc w) r h = absurd (omega arith)
front-taken (suc m) zero r h = rw (front-none r)
front-taken (suc m) (suc w) r h =
    let u = suc w / 128 in
    let b = suc w % 128 + 128 in
    let is : u * 128 + (b - 128) ≡ suc w = omega arith in
    rw (front-more (suc w) r (omega arith)) (front-taken m u (b ∷ r) (omega arith) ∙ take_more u b r (omega arith) ∙ rw is)

pub number-taken : (n : ℕ) (r : List ℕ) → take_number 0 (groups n r) ≡ some (n, r)
unfolding groups
number-taken n r =
    let is : n / 128 * 128 + n % 128 ≡ n = omega arith in
    front-taken (n / 128) (n / 128) (n % 128 ∷ r) (omega arith) ∙ take_last (n / 128) (n % 128) r (omega arith) ∙ rw is

-- ---- a text

pub text-taken : (b r : List ℕ) → take_text (length b) (b ++ r) ≡ some (b, r)
unfolding take_text if
text-taken b r = rw (le-leb (length b) (length (b ++ r)) (omega (arith, length-append b r)), take-append_seam b r, drop-append_seam b r)

-- ---- an entry

module _ (k r w : ℕ) where
  abbrev pub entry_of : Cell → Cell → Change
  entry_of x y = record { table = k; row = r; word = w; first = x; second = y }

  abbrev pub cell_bytes : Cell → Cell → List ℕ → List ℕ
  cell_bytes x y s = lead_bytes x (lead_bytes y (text_bytes x (text_bytes y s)))

  numbers-taken : (m n : ℕ) (s : List ℕ) → take_numbers k r w (cell_bytes (number m) (number n) s) ≡ some (entry_of (number m) (number n), s)
  unfolding take_numbers lead_bytes text_bytes
  numbers-taken m n s = rw (number-taken m (groups n s), number-taken n s)

  texts-taken : (x y s : List ℕ) → take_texts k r w (cell_bytes (text x) (text y) s) ≡ some (entry_of (text x) (text y), s)
  unfolding take_texts lead_bytes text_bytes
  texts-taken x y s =
      rw (number-taken (length x) (groups (length y) (x ++ (y ++ s))), number-taken (length y) (x ++ (y ++ s)), text-taken x (y ++ s), text-taken y s)

  cells-taken : (d : WordKind) (a b x y s : List ℕ) → (cell_of d a x w ≡ cell_of d b y w → ⊥)
      → take_cells k r w d (cell_bytes (cell_of d a x w) (cell_of d b y w) s) ≡ some (entry_of (cell_of d a x w) (cell_of d b y w), s)
  unfolding take_cells cell_of
  cells-taken Whole a b x y s h = numbers-taken (get_or x w 0) (get_or y w 0) s
  cells-taken Float a b x y s h = numbers-taken (get_or x w 0) (get_or y w 0) s
  cells-taken Name a b x y s h = texts-taken (name_from a x).bytes (name_from b y).bytes s
  cells-taken Length a b x y s h = absurd (h refl)

  entry-taken : (x y : Cell) (s : List ℕ) → take_change (change_bytes (entry_of x y) s) ≡ take_cells k r w (kind_at k w) (cell_bytes x y s)
  unfolding take_change change_bytes
  entry-taken x y s =
      rw (number-taken k (groups r (groups w (cell_bytes x y s))), number-taken r (groups w (cell_bytes x y s)), number-taken w (cell_bytes x y s))

-- ---- the list

-- an entry that is read back, whatever follows
abbrev pub Back : Change → Type 0
Back c = (r : List ℕ) → take_change (change_bytes c r) ≡ some (c, r)

read_some : (f : ℕ) (c : Change) (r s : List ℕ) → 0 < length s → take_change s ≡ some (c, r) → (l : List Change) → read_in f r ≡ some l → read_in (suc f) s ≡ some (c ∷ l)
unfolding read_in
read_some f c r [] h e l g = absurd (omega arith)
read_some f c r (b ∷ s) h e l g = rw (e, g)

read_back : (l : List Change) (f : ℕ) → length (list_bytes l) ≤ f → All Back l → read_in f (list_bytes l) ≡ some l
unfolding list_bytes read_in
read_back [] zero h g = refl
read_back [] (suc f) h g = refl
read_back (c ∷ l) zero h g = absurd (omega (arith, some_byte c (list_bytes l)))
read_back (c ∷ l) (suc f) h g =
    read_some f c (list_bytes l) (change_bytes c (list_bytes l)) (omega (arith, some_byte c (list_bytes l))) (g.0 (list_bytes l)) l
    (read_back l f (omega (arith, some_byte c (list_bytes l))) g.1)

module _ (a b : List ℕ) (t u : Scene) where
  pub told_back : (ks : List ℕ) (c : Change) → EntryIs a b t u ks c → Back c
  unfolding cell_at
  told_back ks c o s =
      rw o.is (entry-taken o.table o.row o.word _ _ s ∙ cells-taken o.table o.row o.word (kind_at o.table o.word) a b _ _ s o.of.differs)

  changes-back : (c : Change) → In c (changes a b t u) → Back c
  changes-back c i =
      by_test (same (twelve t) (twelve u))
      (λ h. told_back _ c (((listed-exactly a b t u).cells (same-is (twelve t) (twelve u) h)).only c i))
      (λ h. told_back _ c (((listed-exactly a b t u).numbers (λ e. T_not (same (twelve t) (twelve u)) h (rw e (same_self (twelve u))))).only c i))

  pub list_back : read_list (list_bytes (changes a b t u)) ≡ some (changes a b t u)
  unfolding read_list
  list_back = read_back (changes a b t u) (length (list_bytes (changes a b t u))) (omega arith) (all_in Back (changes a b t u) changes-back)

some_inj : {A : Type 0} {x y : A} → some x ≡ some y → x ≡ y
some_inj e = cc

pub readable : (a b : List ℕ) (t u : Scene) → Readable a b t u
readable a b t u =
    record {
      entry = changes-back a b t u;
      list = list_back a b t u;
      apart = λ c d v w e. some_inj (sym (list_back a b t u) ∙ ap read_list e ∙ list_back c d v w);
    }
