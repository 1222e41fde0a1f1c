-- What each step of `vrts_vertices`, `mesh_vertices` and `root_vertices` says of the vertices.
use Rattle.std.specs.Prelude.{Ok, Err, Some, None}
use Rattle.std.specs.Prelude as std
use Rattle.layout.specs.declared.Refusal.{Refusal}
use Rattle.std.specs.Result.{result_ok}
use Rattle.b3d_chunk_walk.specs.declared.Sought.{Sought}
use Prim.Native.Nat.{ℕ, ◌+◌, ◌-◌, ◌<◌, ◌≤◌}
use native.Mathlib.Omega.{arith}
use mathlib.Core.Path.{◌≡◌, refl, ap, sym, ◌∙◌}
use mathlib.Core.Bool.{Bool, true, false}
use mathlib.Core.List.{List, [], ◌∷◌}
use lib.ListN.{length}
use borrow.Author.Tests.{le-leb, lt-leb, ne_eqb}
use Rattle.wire.specs.Bytes.{word_at}
use Rattle.wire.specs.Test.{if}
use Rattle.wire.specs.Cursors.{Inside, left, number_at}
use Rattle.wire.specs.declared.Cursor.{Cursor}
use Rattle.wire.proofs.AnswerLaws.{number-inside}
use Rattle.wire.proofs.LeftLaws.{span, left-length, left-drop}
use Rattle.layout.specs.Result.{Result, accept, reject, check, ◌>>=◌}
use Rattle.layout.specs.Parts.{words_of, judged, row}
use Rattle.layout.proofs.StepLaws.{row-enough, row-short, three-left}
use Rattle.b3d_spec.specs.declared.Tag.{Tag}
use Rattle.b3d_spec.specs.declared.Tag.TheVariants.{MESH, VRTS}
use Rattle.b3d_spec.specs.Tags.{code, split}
use Rattle.b3d_spec.specs.Rules.{vertices_head, vertex_words}
use Rattle.b3d_chunk_cursor.specs.Chunks.{NextIs}
use Rattle.b3d_judge_items.specs.Items.{divided_at}
use Rattle.b3d_chunk_cursor.specs.declared.Next.{Next}
use Rattle.b3d_chunk_cursor.specs.declared.Next.TheVariants as next
use Rattle.b3d_chunk_cursor.proofs.NextLaws.{chunk-is, chunk-among, body-inside, cut-is, done-is}
use Rattle.b3d_chunk_walk.specs.Seeks.{Seeks}
use Rattle.b3d_chunk_walk.proofs.SeekLaws.{sought_body}
use Rattle.b3d_label_spec.specs.Walk.{vrts_vertices, mesh_vertices, root_vertices}
use Rattle.b3d_label.specs.Answers.{many_says, on_label}
use Rattle.b3d_label.proofs.HeadLaws.{one-cut, one_got}
use Rattle.b3d_label.proofs.SeekLaws.{first-not, first_found}

-- ---- VRTS

-- the cursor after the fixed data of a body
abbrev after : Cursor → Cursor
after b = span (b.at + 12) b.end

-- how many items, if they were counted
abbrev says_counted : std.Result ℕ Refusal → Result ℕ
says_counted (Ok k) = accept k
says_counted (Err e) = reject 14 0

many-counted : (t : Bool) (n : Refusal) (k : ℕ) → on_label (check t 14 0 >>= λ _. accept k) ≡ says_counted (if t (Ok k) (Err n))
unfolding check if
many-counted true k n = refl
many-counted false k n = refl

module _ (s : List ℕ) (b : Cursor) (i : Inside b (length s)) where
  abbrev Right : std.Option ℕ → Type 0
  Right m = many_says m ≡ on_label (vrts_vertices b.at (left b s))

  pub vrts_cut : b.end - b.at < 12 → Right None
  unfolding vrts_vertices
  vrts_cut h = rw (row-short vertices_head b.at (left b s) (omega (arith, left-length s b i)))

  module _
      (room : 12 ≤ b.end - b.at) (flags sets size : ℕ)
      (f : flags ≡ word_at s b.at) (g : sets ≡ word_at s (b.at + 4)) (h : size ≡ word_at s (b.at + 8)) where
    three : words_of 3 (left b s) ≡ flags ∷ sets ∷ size ∷ []
    three = three-left s b i room ∙ rw (f, g, h)

    head : row vertices_head b.at (left b s)
        ≡ judged vertices_head b.at (flags ∷ sets ∷ size ∷ []) (record { value = flags ∷ sets ∷ size ∷ []; place = b.at + 12; left = left (after b) s })
    head = rw (left-drop s b 12 (after b) refl refl, ← three) (row-enough vertices_head b.at (left b s) (omega (arith, left-length s b i)))

    pub vrts_flags : 3 < flags → Right None
    unfolding vrts_vertices judged check
    vrts_flags o = rw (head, lt-leb _ _ o)

    module _ (f3 : flags ≤ 3) where
      pub vrts_sets : 8 < sets → Right None
      unfolding vrts_vertices judged check
      vrts_sets o = rw (head, le-leb _ _ f3, lt-leb _ _ o)

      module _ (s8 : sets ≤ 8) where
        pub vrts_size : 4 < size → Right None
        unfolding vrts_vertices judged check
        vrts_size o = rw (head, le-leb _ _ f3, le-leb _ _ s8, lt-leb _ _ o)

        module _ (s4 : size ≤ 4) (words : ℕ) (v : words ≡ vertex_words flags sets size) (x : std.Result ℕ Refusal) (y : x ≡ divided_at (after b) words) where
          whole : row vertices_head b.at (left b s) ≡ accept (record { value = flags ∷ sets ∷ size ∷ []; place = b.at + 12; left = left (after b) s })
          unfolding judged check
          whole = rw (head, le-leb _ _ f3, le-leb _ _ s8, le-leb _ _ s4)

          counted : on_label (vrts_vertices b.at (left b s)) ≡ says_counted x
          unfolding vrts_vertices divided_at
          counted = rw (whole, ← v, left-length s (after b) (record { before = omega arith; within = i.within }), y) (many-counted _ _ _)

          pub vrts_told : (m : std.Option ℕ) → m ≡ result_ok x → Right m
          vrts_told m q = go x refl
            where
              go : (z : std.Result ℕ Refusal) → x ≡ z → Right m
              go (Ok k) e = ap many_says (q ∙ ap result_ok e) ∙ sym (counted ∙ ap says_counted e)
              go (Err f) e = ap many_says (q ∙ ap result_ok e) ∙ sym (counted ∙ ap says_counted e)

          pub vrts_all : (k : ℕ) → x ≡ Ok k → Right (Some k)
          vrts_all k e = vrts_told (Some k) (sym (ap result_ok e))

          pub vrts_bad : (f : Refusal) → x ≡ Err f → Right None
          vrts_bad f e = vrts_told None (sym (ap result_ok e))

-- ---- MESH

module _ (s : List ℕ) (b : Cursor) (i : Inside b (length s)) (r : std.Option (ℕ × Cursor)) (e : r ≡ number_at s b) where
  abbrev MeshRight : std.Option ℕ → Type 0
  MeshRight m = many_says m ≡ on_label (mesh_vertices b.at (left b s))

  pub mesh-cut : r ≡ None → MeshRight None
  unfolding mesh_vertices
  mesh-cut w = rw (one-cut s b i r e w)

  module _ (k : ℕ) (c : Cursor) (w : r ≡ Some (k, c)) (x : std.Option Sought) (y : Seeks s c VRTS x) where
    pub mesh-none : x ≡ None → MeshRight None
    unfolding mesh_vertices
    mesh-none q = rw (one_got s b i r e k c w, (first-not s c VRTS x y q).2)

    pub mesh-some : (f : Sought) → x ≡ Some f → (m : std.Option ℕ) → many_says m ≡ on_label (vrts_vertices f.body.at (left f.body s)) → MeshRight m
    unfolding mesh_vertices
    mesh-some f q m h = h ∙ rw (one_got s b i r e k c w, first_found s c VRTS x y f q)

pub ruleset mesh_laws = (number-inside, mesh-cut, mesh-none, sought_body, mesh-some)

-- ---- the first known chunk of a root

module _ (s : List ℕ) (c : Cursor) (r : Next) (x : NextIs s c r) where
  abbrev RootRight : std.Option ℕ → Type 0
  RootRight m = many_says m ≡ on_label (root_vertices (split c.at (left c s)))

  pub root-done : r ≡ next.Done → RootRight (Some 0)
  unfolding root_vertices
  root-done w = rw (done-is s c r x w)

  pub root-cut : (p : ℕ) → r ≡ next.Cut p → RootRight None
  unfolding root_vertices
  root-cut p w = rw (cut-is s c r x p w)

  module _ (t : Tag) (p : ℕ) (b n : Cursor) (w : r ≡ next.Chunk t p b n) where
    pub root-inside : Inside c (length s) → Inside b (length s)
    root-inside i = body-inside s c r x t p b n w (length s) i

    module _ (k : ℕ) (e : k ≡ code t) where
      pub root-mesh : k ≡ code MESH → (m : std.Option ℕ) → many_says m ≡ on_label (mesh_vertices b.at (left b s)) → RootRight m
      unfolding root_vertices if
      root-mesh q m h = let f = chunk-among s c r x t p b n w in h ∙ rw (chunk-is s c r x t p b n w, ← e, q, f.body)

      pub root-other : (k ≡ code MESH → ⊥) → RootRight (Some 0)
      unfolding root_vertices if
      root-other q = rw (chunk-is s c r x t p b n w, ← e, ne_eqb k (code MESH) q)

pub ruleset root_laws = (root-done, root-cut, root-inside, root-mesh, root-other)
