-- So many submeshes: what each turn of `judge_submeshes` makes of those that are left.
use Rattle.std.specs.Prelude.{Ok, Err}
use Rattle.std.specs.Prelude as std
use Rattle.layout.specs.declared.Refusal.{Refusal}
use Prim.Native.Nat.{ℕ, suc, ◌+◌, ◌-◌, ◌*◌, ◌<◌, ◌≤◌}
use native.Mathlib.Omega.{arith}
use mathlib.Core.Path.{◌≡◌, refl, ap, sym, ◌∙◌}
use mathlib.Core.List.{List, [], ◌∷◌, ◌++◌, map}
use lib.ListN.{length, length-append}
use Rattle.wire.specs.Cursors.{Inside, left}
use Rattle.wire.specs.declared.Cursor.{Cursor}
use Rattle.layout.specs.Result.{Result, accept, reject}
use Rattle.layout.specs.Parts.{Step}
use Rattle.layout.specs.Counted.{times}
use Rattle.layout.specs.Rows.{joined}
use Rattle.layout.proofs.AnswerLaws.{pair_inj}
use Rattle.shared_counted_lists.proofs.WalkLaws.{mapped, Walk, walk_start, walk_none, walk_refused, walk-on}
use Rattle.cal3d_spec.specs.Meshes.{Vertex, Submesh, read_submesh}
use Rattle.cal3d_spec.specs.Tables.{vertices_of}
use Rattle.cal3d_mesh_vertices.specs.Vertices.{maps_in, influences_in}
use Rattle.cal3d_mesh_submesh_lists.specs.Contents.{contents_of, contents_in, both, CountsWithin, contained_of, Takes, ContentPasses, Contains}
use Rattle.cal3d_mesh_submesh_lists.specs.declared.Contents.{Contents}
use Rattle.cal3d_mesh_submesh_lists.proofs.ListLaws.{same_contents}
use Rattle.cal3d_mesh_submeshes.proofs.SubmeshLaws.{submesh_moves}

-- ---- answers

pub contained-bad : {A : Type 0} (f : A → Contents) (end : ℕ) (o : Result (Step A)) (e : Refusal) → Err e ≡ contained_of f end o → o ≡ reject e.number e.place
contained-bad f end (accept x) e q = let z : ◌≡◌ {A = ℕ} 0 1 = cc in absurd (omega arith)
contained-bad f end (reject n m) e q = let a : n ≡ e.number = cc in let b : m ≡ e.place = cc in rw (a, b)

pub contained_got : {A : Type 0} (f : A → Contents) (end : ℕ) (o : Result (Step A)) (t : Contents) (n : Cursor) → Ok (t, n) ≡ contained_of f end o
    → (x : Step A) × (o ≡ accept x) × (t ≡ f x.value) × (n ≡ record { at = x.place; end = end })
contained_got f end (accept x) t n q = let z = pair_inj t (f x.value) n (record { at = x.place; end = end }) q in (x, refl, z.0, z.1)
contained_got f end (reject m p) t n q = let z : ◌≡◌ {A = ℕ} 0 1 = cc in absurd (omega arith)

-- ---- what submeshes contain

-- rows of a kind, one list after another
rows-add : {A : Type 0} (f : A → List (List ℕ)) (k l : List A) → length (joined (map f (k ++ l))) ≡ length (joined (map f k)) + length (joined (map f l))
unfolding joined
rows-add f [] l = omega arith
rows-add f (a ∷ k) l =
    let i = rows-add f k l in
    let d = length-append (f a) (joined (map f (k ++ l))) in
    let e = length-append (f a) (joined (map f k)) in
    omega arith

-- nothing
abbrev none : Contents
none = record { vertices = 0; maps = 0; influences = 0; springs = 0; faces = 0 }

none_in : contents_in [] ≡ none
unfolding contents_in vertices_of joined maps_in influences_in
none_in = refl

both-none : (t : Contents) → both t none ≡ t
both-none t =
    same_contents (t.vertices + 0) t.vertices (t.maps + 0) t.maps (t.influences + 0) t.influences (t.springs + 0) t.springs (t.faces + 0) t.faces
    (omega arith) (omega arith) (omega arith) (omega arith) (omega arith)

none_both : (t : Contents) → both none t ≡ t
none_both t =
    same_contents (0 + t.vertices) t.vertices (0 + t.maps) t.maps (0 + t.influences) t.influences (0 + t.springs) t.springs (0 + t.faces) t.faces
    (omega arith) (omega arith) (omega arith) (omega arith) (omega arith)

both_assoc : (a b d : Contents) → both a (both b d) ≡ both (both a b) d
both_assoc a b d =
    same_contents
    (a.vertices + (b.vertices + d.vertices)) (a.vertices + b.vertices + d.vertices)
    (a.maps + (b.maps + d.maps)) (a.maps + b.maps + d.maps)
    (a.influences + (b.influences + d.influences)) (a.influences + b.influences + d.influences)
    (a.springs + (b.springs + d.springs)) (a.springs + b.springs + d.springs)
    (a.faces + (b.faces + d.faces)) (a.faces + b.faces + d.faces)
    (omega arith) (omega arith) (omega arith) (omega arith) (omega arith)

one_in : (x : Submesh) (l : List Submesh) → contents_in (x ∷ l) ≡ both (contents_of x) (contents_in l)
unfolding contents_in contents_of vertices_of joined maps_in influences_in
one_in x l =
    same_contents _ _ _ _ _ _ _ _ _ _
    (length-append x.vertices (vertices_of l))
    (rows-add (λ (y : Vertex). y.maps) x.vertices (vertices_of l))
    (rows-add (λ (y : Vertex). y.influences) x.vertices (vertices_of l))
    (length-append x.springs (joined (map (λ (y : Submesh). y.springs) l)))
    (length-append x.faces (joined (map (λ (y : Submesh). y.faces) l)))

-- ---- the walk

-- what submeshes contain behind others
abbrev after : Contents → List Submesh → Contents
after t l = both t (contents_in l)

after_one : (t : Contents) (x : Submesh) (l : List Submesh) → after t (x ∷ l) ≡ after (both t (contents_of x)) l
after_one t x l = ap (λ (d : Contents). both t d) (one_in x l) ∙ both_assoc t (contents_of x) (contents_in l)

after_none : (end : ℕ) (o : Result (Step (List Submesh))) → contained_of contents_in end o ≡ contained_of (λ t. t) end (mapped (after none) o)
after_none end (accept x) = ap (λ (t : Contents). Ok (t, record { at = x.place; end = end })) (sym (none_both (contents_in x.value)))
after_none end (reject n p) = refl

-- i of n submeshes have been passed up to c, with these contents, each of 24 bytes or more
pub record Totalling (s : List ℕ) (bones n : ℕ) (from c : Cursor) (i : ℕ) (all : Contents) : Type 0 where
  pub upto : i ≤ n
  pub passed : from.at + i * 24 ≤ c.at
  pub walk : Walk (read_submesh bones) after s n from c none (n - i) all
  pub takes : Takes from 0 all c

module _ (s : List ℕ) (bones n : ℕ) (from : Cursor) where
  pub total_start : Inside from (length s) → Totalling s bones n from from 0 (record { vertices = 0; maps = 0; influences = 0; springs = 0; faces = 0 })
  total_start inside =
      let e : n - 0 ≡ n = omega arith in
      record {
        upto = omega arith;
        passed = omega arith;
        walk = rw e (walk_start (read_submesh bones) after s n from none inside);
        takes = record { vertices = omega arith; maps = omega arith; influences = omega arith; springs = omega arith; faces = omega arith; before = inside.before; same = refl };
      }

  module _ (c : Cursor) (i : ℕ) (all : Contents) (w : Totalling s bones n from c i all) where
    pub total_done : n ≤ i → Contains contents_in (times n (read_submesh bones) from.at (left from s)) from 0 (Ok (all, c))
    total_done h =
        let over : n - i ≤ 0 = omega arith in
        let z : after all [] ≡ all = ap (λ (t : Contents). both all t) none_in ∙ both-none all in
        record {
          is = sym (after_none from.end (times n (read_submesh bones) from.at (left from s)) ∙ rw (walk_none (read_submesh bones) after s n from c none (n - i) all w.walk over, z, ← w.walk.same));
          passes = w.takes;
        }

    module _ (h : i < n) (r : std.Result (Contents × Cursor) Refusal) (b : Contains contents_of (read_submesh bones c.at (left c s)) c 24 r) where
      pub total_bad : (e : Refusal) → r ≡ Err e → Contains contents_in (times n (read_submesh bones) from.at (left from s)) from 0 (Err e)
      total_bad e q =
          let o = contained-bad contents_of c.end (read_submesh bones c.at (left c s)) e (sym q ∙ b.is) in
          let m : e.place ≤ c.end = rw q at b.passes in
          let g = w.walk.same in
          let some : 0 < n - i = omega arith in
          record {
            is = sym (after_none from.end (times n (read_submesh bones) from.at (left from s)) ∙ rw (walk_refused (read_submesh bones) after s n from c none (n - i) all w.walk some e.number e.place o));
            passes = omega arith;
          }

      module _ (one : Contents) (m : Cursor) (q : r ≡ Ok (one, m)) where
        went : ContentPasses c 24 (Ok (one, m))
        went = rw q at b.passes

        pub total_room : length s ≤ 18446744073709551615 → CountsWithin (both all one) 18446744073709551615
        total_room l =
            let p = went in
            let f = w.takes in
            let inside = w.walk.inside in
            record { vertices = omega arith; maps = omega arith; influences = omega arith; springs = omega arith; faces = omega arith }

        pub total_next : (t : Contents) → t ≡ both all one → Totalling s bones n from m (i + 1) t
        total_next t k =
            let p = went in
            let f = w.takes in
            let some : 0 < n - i = omega arith in
            let less : n - i ≡ suc (n - (i + 1)) = omega arith in
            let g = contained_got contents_of c.end (read_submesh bones c.at (left c s)) one m (sym q ∙ b.is) in
            let x = g.0 in
            let at : m.at ≡ x.place = ap (λ (z : Cursor). z.at) g.3 in
            let e : both all (contents_of x.value) ≡ t = ap (λ (z : Contents). both all z) (sym g.2) ∙ sym k in
            record {
              upto = omega arith;
              passed = let b = w.passed in omega arith;
              walk = rw e at (walk-on (read_submesh bones) after s n from c none (n - i) all w.walk some (submesh_moves bones) (λ y z. both y (contents_of z)) after_one x g.1 m at p.same p.before (n - (i + 1)) less);
              takes = rw k (record { vertices = omega arith; maps = omega arith; influences = omega arith; springs = omega arith; faces = omega arith; before = p.before; same = p.same ∙ w.walk.same });
            }

pub ruleset totals = (total_start, total_done, total_bad, total_next)
