-- What each step of `root_label` and `file_label` says of the label.
use Rattle.std.specs.Prelude.{Some, None}
use Rattle.std.specs.Prelude as std
use Rattle.b3d_chunk_cursor.specs.declared.Named.{Named}
use Rattle.b3d_chunk_walk.specs.declared.Sought.{Sought}
use Prim.Native.Nat.{ℕ}
use native.Mathlib.Omega.{arith}
use mathlib.Core.Path.{◌≡◌, refl, ap, sym, ◌∙◌}
use mathlib.Core.List.{List}
use lib.ListN.{length, take}
use lib.Seq.{length-take-le}
use Rattle.wire.specs.Cursors.{Inside, left, number_at}
use Rattle.wire.specs.declared.Cursor.{Cursor}
use Rattle.wire.proofs.AnswerLaws.{number-inside}
use Rattle.wire.proofs.LeftLaws.{left-length}
use Rattle.layout.specs.Result.{Result, accept, reject, ◌>>=◌}
use Rattle.b3d_spec.specs.declared.Tag.TheVariants.{NODE}
use Rattle.b3d_spec.specs.Tags.{split}
use Rattle.b3d_spec.specs.Rules.{node_row}
use Rattle.b3d_chunk_cursor.specs.Chunks.{named_at, NamedIn}
use Rattle.b3d_chunk_cursor.proofs.NamedLaws.{named-cut, named-any, named-among, after-inside}
use Rattle.b3d_chunk_walk.specs.Seeks.{Seeks}
use Rattle.b3d_chunk_walk.proofs.SeekLaws.{sought_body}
use Rattle.b3d_label_spec.specs.Walk.{Refused, root_vertices, Printed, root_in, file_in, no_label, labelled}
use Rattle.b3d_label.specs.Answers.{many_says, on_label, Labels}
use Rattle.b3d_label_spec.specs.declared.TrayLabel.{TrayLabel}
use Rattle.b3d_label.proofs.HeadLaws.{one-cut, one_got}
use Rattle.b3d_label.proofs.SeekLaws.{first-not, first_found}

-- a refusal has no label
pub label-none : (o : Result Printed) (n : ℕ) → Refused o → (l : TrayLabel) → l ≡ no_label → Labels o n l
unfolding labelled
label-none o n h l e = record { is = e ∙ rw h.2; within = rw e (omega arith) }

refused-then : {A B : Type 0} (o : Result A) (f : A → Result B) → Refused o → Refused (o >>= f)
refused-then o f h = (h.0, h.1, rw h.2)

-- ---- what vertices say

many-not : (o : Result ℕ) → on_label o ≡ reject 14 0 → Refused o
many-not (accept k) e = let z : ◌≡◌ {A = ℕ} 0 1 = cc in absurd (omega arith)
many-not (reject n p) e = (n, p, refl)

many_are : (o : Result ℕ) (k : ℕ) → on_label o ≡ accept k → o ≡ accept k
many_are (accept j) k e = cc
many_are (reject n p) k e = let z : ◌≡◌ {A = ℕ} 0 1 = cc in absurd (omega arith)

-- ---- a root

module _ (s : List ℕ) (b : Cursor) (i : Inside b (length s)) (r : std.Option Named) (e : r ≡ named_at s b 10) (f : NamedIn b 10 r) where
  abbrev Right : TrayLabel → Type 0
  Right l = Labels (root_in b.at (left b s)) (length s) l

  pub root-unnamed : r ≡ None → (l : TrayLabel) → l ≡ no_label → Right l
  unfolding root_in
  root-unnamed w = label-none _ (length s) (5, b.at, rw (named-cut s b 10 i node_row refl r e w))

  module _ (d : Named) (w : r ≡ Some d) where
    pub root-after : Inside d.next (length s)
    root-after = after-inside b 10 r f d w (length s) i

    abbrev Inside-root : Result ℕ
    Inside-root = root_vertices (split d.next.at (left d.next s))

    -- the name, with so many vertices
    abbrev named_with : ℕ → Result Printed
    named_with k = accept (record { name = record { place = b.at; bytes = take d.length (left b s) }; vertices = k })

    opened : root_in b.at (left b s) ≡ (Inside-root >>= named_with)
    unfolding root_in
    opened = rw (named-any s b 10 i r e d w)

    long : length (take d.length (left b s)) ≡ d.length
    long = let g = named-among b 10 r f d w in length-take-le d.length (left b s) (omega (arith, left-length s b i))

    module _ (m : std.Option ℕ) (y : many_says m ≡ on_label Inside-root) where
      pub root-refused : m ≡ None → (l : TrayLabel) → l ≡ no_label → Right l
      root-refused q =
          let h = refused-then Inside-root named_with (many-not Inside-root (sym y ∙ ap many_says q)) in
          label-none _ (length s) (h.0, h.1, opened ∙ h.2)

      pub root-labelled : (k : ℕ) → m ≡ Some k → Right (record { number = 0; place = 0; name_place = b.at; name_length = d.length; vertices = k })
      unfolding labelled
      root-labelled k q =
          let g = named-among b 10 r f d w in
          record { is = rw (opened, many_are Inside-root k (sym y ∙ ap many_says q), long); within = omega (arith, i) }

pub ruleset root-label_laws = (root-unnamed, root-after, root-refused, root-labelled)

-- ---- a BB3D

module _ (s : List ℕ) (b : Cursor) (i : Inside b (length s)) (r : std.Option (ℕ × Cursor)) (e : r ≡ number_at s b) where
  abbrev FileRight : TrayLabel → Type 0
  FileRight l = Labels (file_in b.at (left b s)) (length s) l

  pub file-cut : r ≡ None → (l : TrayLabel) → l ≡ no_label → FileRight l
  unfolding file_in
  file-cut w = label-none _ (length s) (5, b.at, rw (one-cut s b i r e w))

  module _ (k : ℕ) (c : Cursor) (w : r ≡ Some (k, c)) (x : std.Option Sought) (y : Seeks s c NODE x) where
    pub file-none : x ≡ None → (l : TrayLabel) → l ≡ no_label → FileRight l
    unfolding file_in
    file-none q = let h = first-not s c NODE x y q in label-none _ (length s) (h.0, h.1, rw (one_got s b i r e k c w, h.2))

    pub file-root : (f : Sought) → x ≡ Some f → (l : TrayLabel) → Labels (root_in f.body.at (left f.body s)) (length s) l → FileRight l
    unfolding file_in
    file-root f q l h = record { is = h.is ∙ rw (one_got s b i r e k c w, first_found s c NODE x y f q); within = h.within }

pub ruleset file_laws = (number-inside, file-cut, file-none, sought_body, file-root)
