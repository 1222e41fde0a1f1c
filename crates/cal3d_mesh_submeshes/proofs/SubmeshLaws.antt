-- One submesh: what each step of `judge_submesh` says of it.
use Rattle.std.specs.Prelude.{Ok, Err}
use Rattle.std.specs.Prelude as std
use Rattle.cal3d_mesh_submesh_lists.specs.declared.Contents.{Contents}
use Rattle.layout.specs.declared.Refusal.{Refusal}
use Prim.Native.Nat.{ℕ, ◌+◌, ◌≤◌}
use native.Mathlib.Omega.{arith}
use mathlib.Core.Path.{◌≡◌, refl, ap, sym, ◌∙◌}
use mathlib.Core.List.{List, []}
use mathlib.Core.Bool.{true}
use lib.ListN.{length, get_or}
use lib.Dec.{leb}
use borrow.Author.Tests.{leb-true}
use Rattle.wire.specs.Bytes.{word_at}
use Rattle.wire.specs.Cursors.{Inside, left}
use Rattle.wire.specs.declared.Cursor.{Cursor}
use Rattle.layout.specs.Result.{Result, accept, reject, ◌>>=◌}
use Rattle.layout.specs.Parts.{Step, words_of, row, number}
use Rattle.layout.specs.Counted.{times}
use Rattle.layout.proofs.ResultLaws.{by_got, got_inj}
use Rattle.layout.proofs.CountLaws.{Advances, moved_as, moved_on, row-moves, row_got, times-moves}
use Rattle.shared_counted_lists.specs.Runs.{Passes, Runs}
use Rattle.shared_ids.proofs.IdLaws.{word-at}
use Rattle.shared_counted_lists.proofs.RunLaws.{runs_bad, runs_place, runs_passed, runs_inside, runs_read}
use Rattle.cal3d_spec.specs.Rules.{submesh_numbers, spring_numbers, face_numbers}
use Rattle.cal3d_spec.specs.Meshes.{Vertex, Submesh, read_vertex, read_submesh}
use Rattle.cal3d_mesh_vertices.proofs.VertexLaws.{vertex-moves}
use Rattle.cal3d_mesh_submesh_lists.specs.Contents.{contents_of, read_lists, contained_of, ContentPasses, Contains}

abbrev Rows : Type 0
Rows = List (List ℕ)

-- a submesh of these numbers and lists
abbrev made : List ℕ → List Vertex → Rows → Step Rows → Step Submesh
made ws v g f = record { value = record { numbers = ws; vertices = v; springs = g; faces = f.value }; place = f.place; left = f.left }

abbrev listed : List ℕ → Result (Step (List Vertex)) → (Step (List Vertex) → Result (Step Rows)) → (Step Rows → Result (Step Rows)) → Result (Step Submesh)
listed ws o t u = o >>= λ v. t v >>= λ g. u g >>= λ f. accept (made ws v.value g.value f)

-- its numbers do not change what it contains
numbers-same : (end : ℕ) (ws zs : List ℕ) (o : Result (Step (List Vertex))) (t : Step (List Vertex) → Result (Step Rows)) (u : Step Rows → Result (Step Rows))
    → contained_of contents_of end (listed ws o t u) ≡ contained_of contents_of end (listed zs o t u)
unfolding contents_of
numbers-same end ws zs (reject n p) t u = refl
numbers-same end ws zs (accept v) t u = second (t v)
  where
    third : (g : Step Rows) (o : Result (Step Rows)) → contained_of contents_of end (o >>= λ f. accept (made ws v.value g.value f)) ≡ contained_of contents_of end (o >>= λ f. accept (made zs v.value g.value f))
    third g (accept f) = refl
    third g (reject n p) = refl

    second : (o : Result (Step Rows))
        → contained_of contents_of end (o >>= λ g. u g >>= λ f. accept (made ws v.value g.value f)) ≡ contained_of contents_of end (o >>= λ g. u g >>= λ f. accept (made zs v.value g.value f))
    second (accept g) = third g (u g)
    second (reject n p) = refl

-- more bytes passed on the way
content_then : (c n : Cursor) (k : ℕ) (x : std.Result (Contents × Cursor) Refusal) → Passes c k (Ok n) → ContentPasses n 0 x → ContentPasses c k x
content_then c n k (Ok (t, m)) h p =
    record { vertices = omega arith; maps = omega arith; influences = omega arith; springs = omega arith; faces = omega arith; before = p.before; same = p.same ∙ h.2 }
content_then c n k (Err e) h p = omega arith

module _ (s : List ℕ) (c : Cursor) (bones : ℕ) (inside : Inside c (length s)) (r : std.Result Cursor Refusal) (v : Runs (row submesh_numbers c.at (left c s)) c 24 r) where
  pub submesh_counts : (e : Refusal) → r ≡ Err e → Contains contents_of (read_submesh bones c.at (left c s)) c 24 (Err e)
  unfolding read_submesh
  submesh_counts e w = record { is = rw (runs_bad (row submesh_numbers c.at (left c s)) c 24 r v e w); passes = runs_place (row submesh_numbers c.at (left c s)) c 24 r v e w }

  module _ (n : Cursor) (w : r ≡ Ok n) where
    pub submesh_room : (k : ℕ) → leb k 20 ≡ true → c.at + k + 4 ≤ length s
    submesh_room k l = let h = runs_passed (row submesh_numbers c.at (left c s)) c 24 r v n w in let m = leb-true k 20 l in omega arith

    pub submesh_inside : Inside n (length s)
    submesh_inside = runs_inside (row submesh_numbers c.at (left c s)) c 24 r v n w (length s) inside

    module _
        (a : ℕ) (ea : a ≡ word_at s (c.at + 4)) (vertices : ℕ) (fa : vertices ≡ a)
        (b : ℕ) (eb : b ≡ word_at s (c.at + 8)) (faces : ℕ) (fb : faces ≡ b)
        (d : ℕ) (ed : d ≡ word_at s (c.at + 16)) (springs : ℕ) (fd : springs ≡ d)
        (e : ℕ) (ee : e ≡ word_at s (c.at + 20)) (maps : ℕ) (fe : maps ≡ e) where
      pub submesh_lists : (x : std.Result (Contents × Cursor) Refusal) → Contains contents_of (read_lists bones vertices springs maps faces n.at (left n s)) n 0 x → Contains contents_of (read_submesh bones c.at (left c s)) c 24 x
      unfolding read_submesh read_lists
      submesh_lists x y =
          let h = runs_passed (row submesh_numbers c.at (left c s)) c 24 r v n w in
          let i = inside in
          let z = runs_read (row submesh_numbers) (row-moves submesh_numbers) s c inside 24 r v n w in
          let g = row_got submesh_numbers c.at (left c s) _ z.is in
          let room : c.at + 24 ≤ c.end = omega arith in
          let at : (k : ℕ) → get_or z.value k 0 ≡ get_or (words_of 6 (left c s)) k 0 = λ k. ap (λ (ws : List ℕ). get_or ws k 0) g.0 in
          let n₁ : get_or z.value 1 0 ≡ vertices = at 1 ∙ word-at s c 6 1 inside (omega arith) (omega arith) ∙ sym (fa ∙ ea) in
          let n₂ : get_or z.value 2 0 ≡ faces = at 2 ∙ word-at s c 6 2 inside (omega arith) (omega arith) ∙ sym (fb ∙ eb) in
          let n₄ : get_or z.value 4 0 ≡ springs = at 4 ∙ word-at s c 6 4 inside (omega arith) (omega arith) ∙ sym (fd ∙ ed) in
          let n₅ : get_or z.value 5 0 ≡ maps = at 5 ∙ word-at s c 6 5 inside (omega arith) (omega arith) ∙ sym (fe ∙ ee) in
          let all : read_submesh bones c.at (left c s)
          ≡ listed z.value (times vertices (read_vertex bones vertices springs maps) n.at (left n s)) (λ q. times springs (row (spring_numbers vertices)) q.place q.left) (λ q. times faces (row (face_numbers vertices)) q.place q.left)
          = rw (z.is, n₁, n₂, n₄, n₅) in
          record {
            is = y.is ∙ ap (λ (j : ℕ). contained_of contents_of j (read_lists bones vertices springs maps faces n.at (left n s))) h.2
                ∙ numbers-same c.end [] z.value (times vertices (read_vertex bones vertices springs maps) n.at (left n s)) (λ q. times springs (row (spring_numbers vertices)) q.place q.left) (λ q. times faces (row (face_numbers vertices)) q.place q.left)
                ∙ ap (contained_of contents_of c.end) (sym all);
            passes = content_then c n 24 x h y.passes;
          }

pub ruleset submesh = (submesh_counts, submesh_room, submesh_inside, submesh_lists)

-- where a submesh leaves off
pub submesh_moves : (bones : ℕ) → Advances (read_submesh bones)
unfolding read_submesh
submesh_moves bones p s x e =
    by_got (row submesh_numbers p s) _ e (λ y ey e₁.
    by_got (times (number y 1) (read_vertex bones (number y 1) (number y 4) (number y 5)) y.place y.left) _ e₁ (λ v ev e₂.
    by_got (times (number y 4) (row (spring_numbers (number y 1))) v.place v.left) _ e₂ (λ g eg e₃.
    by_got (times (number y 2) (row (face_numbers (number y 1))) g.place g.left) _ e₃ (λ f ef e₄.
    let a = moved_on y v (row-moves submesh_numbers p s y ey) (times-moves (read_vertex bones (number y 1) (number y 4) (number y 5)) (vertex-moves bones (number y 1) (number y 4) (number y 5)) (number y 1) y.place y.left v ev) in
    let b = moved_on v g a (times-moves (row (spring_numbers (number y 1))) (row-moves (spring_numbers (number y 1))) (number y 4) v.place v.left g eg) in
    let d = moved_on g f b (times-moves (row (face_numbers (number y 1))) (row-moves (face_numbers (number y 1))) (number y 2) g.place g.left f ef) in
    let q = got_inj e₄ in
    moved_as f x d (cc) (cc)))))
