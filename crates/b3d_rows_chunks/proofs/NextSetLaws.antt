-- The next triangle set: a law for each need.
use Rattle.std.specs.Prelude.{Some, None}
use Rattle.std.specs.Prelude as std
use Rattle.b3d_chunk_walk.specs.declared.Sought.{Sought}
use mathlib.Core.Path.{◌≡◌, refl, ap, ap₂, sym, subst, ◌∙◌}
use Prim.Native.Nat.{ℕ, ◌+◌, ◌-◌, ◌<◌}
use native.Mathlib.Omega.{arith}
use mathlib.Core.Bool.{false}
use mathlib.Core.List.{List, [], ◌++◌}
use mir.Syntax.{w64}
use mir.Val.{Fits}
use lib.ListN.{length, length-append}
use lib.Seq.{sets as stored}
use Rattle.wire.specs.Test.{if}
use Rattle.wire.specs.Cursors.{Inside, left}
use Rattle.wire.proofs.LeftLaws.{left-most}
use Rattle.b3d_spec.specs.declared.Tag.TheVariants.{MESH, TRIS}
use Rattle.b3d_spec.specs.Tables.{width, with_meshes, set_rows, triangle_rows}
use Rattle.b3d_spec_plain_rows.specs.Flat.{flat_at}
use Rattle.b3d_spec_plain_rows.specs.Plain.{plain_mesh, mesh_of, plain_triangles, sets_of}
use Rattle.b3d_spec_plain_rows.specs.Rows.{counted, flat_rows}
use Rattle.b3d_chunk_walk.specs.Seeks.{ahead, inner, Seeks}
use Rattle.b3d_chunk_walk.proofs.SeekLaws.{sought_among, sought_body, sought_next}
use Rattle.b3d_chunk_walk.proofs.MeshLaws.{no-set, one_set}
use Rattle.b3d_read_item_rows.specs.Items.{set_row}
use Rattle.b3d_read_item_rows.proofs.GroupLaws.{group-few}
use Rattle.b3d_read_triangle_rows.specs.Sets.{sets_in}
use Rattle.b3d_read_meshes.proofs.TableLaws.{sets}
use Rattle.b3d_rows_positions.specs.Positions.{left_over, MeshPosition, MeshOpened, MeshMore, MeshOpens}
use Rattle.b3d_rows_positions.specs.declared.Position.{Position}
use Rattle.b3d_rows_positions.proofs.PositionLaws.{owns-only}
use Rattle.b3d_rows_positions.proofs.CountLaws.{set-alike}
use Rattle.b3d_rows_chunks.specs.NextChunk.{triangles_left, behind_sets, sets_ahead, SetPosition, with_triangles, SetFound, NoSet, SetFoundIs, SetFinds, SetNexts}
use Rattle.b3d_rows_chunks.specs.declared.FoundSet.{FoundSet}

-- the sets from y on are those from x on
pub record FindLeft (s : List ℕ) (x y : Position) : Type 0 where
  pub rows : sets_ahead s x ≡ sets_ahead s y
  pub position : SetPosition s y

sets-in : (p : ℕ) (b : List ℕ) (i r : ℕ) → sets_in p b i r ≡ set_rows i r (sets_of (inner p b))
unfolding sets_in
sets-in p b i r = refl

module _ (s : List ℕ) (x : Position) where
  pub find_start : SetPosition s x → FindLeft s x x
  find_start v = record { rows = refl; position = v }

  module _ (y : Position) (v : FindLeft s x y) where
    pub find-inside : Inside y.inner (length s)
    find-inside = v.position.walk.inside

    pub find-walk : MeshPosition s y
    find-walk = v.position.walk

    module _ (r : std.Option Sought) (u : Seeks s y.inner TRIS r) where
      module _ (w : r ≡ None) where
        none : sets_of (ahead s y.inner) ≡ []
        none = no-set s y.inner r u w

        none_left : triangles_left s y ≡ 0
        unfolding triangle_rows
        none_left = ap (λ l. length (triangle_rows l)) none

        only-later : sets_ahead s y ≡ flat_rows 6 (behind_sets s y) (flat_at s y.at)
        unfolding sets_ahead set_rows
        only-later = ap (λ l. set_rows (y.counts.meshes - 1) y.counts.triangles l ++ flat_rows 6 (behind_sets s y) (flat_at s y.at)) none

        module _ (a : std.Option Position) (o : MeshOpens s y a) where
          pub find_none : a ≡ None → SetFinds s x None
          unfolding behind_sets
          find_none e =
              let d = subst (MeshMore s y) e o.is in
              record { is = record { rows = v.rows ∙ only-later ∙ d.rows 6 (owns-only sets) (behind_sets s y) refl } }

          module _ (z : Position) (e : a ≡ Some z) where
            opened : MeshOpened s y z
            opened = subst (MeshMore s y) e o.is

            pub find_less : left_over s z < left_over s y
            find_less = opened.less

            on-rows : flat_rows 6 (behind_sets s y) (flat_at s y.at) ≡ sets_ahead s z
            unfolding behind_sets sets_ahead with_meshes plain_mesh mesh_of
            on-rows =
                let d = opened in
                let g = d.met.rows 6 (owns-only sets) (behind_sets s y) refl in
                let m = g.counts in
                let e₁ : m.meshes ≡ z.counts.meshes - 1 = omega (arith, g.later.meshes tt, d.meshes) in
                let e₂ : m.triangles ≡ z.counts.triangles = omega (arith, g.later.triangles tt, d.triangles, none_left) in
                let e₃ : inner d.head (left d.body s) ≡ ahead s z.inner = sym d.inner_is in
                let h : set_rows m.meshes m.triangles (sets_of (inner d.head (left d.body s))) ≡ set_rows (z.counts.meshes - 1) z.counts.triangles (sets_of (ahead s z.inner)) = rw (e₁, e₂, e₃) in
                g.rows
                ∙ ap₂ ◌++◌ (sets.own MESH d.head (left d.body s) m tt ∙ sets-in d.head (left d.body s) m.meshes m.triangles ∙ h)
                (set-alike (flat_at s z.at) (counted MESH d.head (left d.body s) m) (behind_sets s z)
                (record {
                  meshes = omega (arith, g.later.meshes tt, d.meshes);
                  triangles = ap₂ ◌+◌ e₂ (ap (λ l. length (triangle_rows (sets_of l))) e₃);
                }))

            pub find_on : FindLeft s x z
            find_on = record {
              rows = v.rows ∙ only-later ∙ on-rows;
              position = record {
                walk = opened.position;
                small = v.position.small;
                before = opened.before;
                triangles = omega (arith, opened.triangles, v.position.triangles, v.position.walk.inside.before, v.position.before, opened.since);
              };
            }

      module _ (d : Sought) (w : r ≡ Some d) where
        pub find_there : (f : FoundSet) → f ≡ record { body = d.body; position = record { at = y.at; inner = d.next; items = y.items; counts = y.counts } } → SetFinds s x (Some f)
        unfolding sets_ahead set_rows set_row behind_sets triangle_rows
        find_there f ef =
            let c = one_set s y.inner r u d w in
            let t = plain_triangles (left d.body s) in
            let k = length t.triangles in
            let g = sought_among s y.inner TRIS r u d w in
            let q : y.counts.triangles + length (triangle_rows (sets_of (ahead s y.inner))) ≡ y.counts.triangles + k + length (triangle_rows (sets_of (ahead s d.next))) =
            ap (λ l. y.counts.triangles + length (triangle_rows l)) c ∙ omega (arith, length-append t.triangles (triangle_rows (sets_of (ahead s d.next)))) in
            subst (λ (h : FoundSet). SetFinds s x (Some h)) (sym ef)
            (record {
              is = record {
                rows = v.rows ∙ rw (q, c);
                inside = sought_body s y.inner TRIS r u d w (length s) v.position.walk.inside;
                walk = record { run = v.position.walk.run; inside = sought_next s y.inner TRIS r u d w (length s) v.position.walk.inside; nodes = v.position.walk.nodes; meshes = v.position.walk.meshes };
                small = v.position.small;
                before = omega (arith, g.same, v.position.before);
                triangles = omega (arith, group-few false (left d.body s), left-most s d.body, v.position.triangles, g.from, g.body, g.room, g.after);
              };
            })

pub ruleset find_laws = (find_start, find-inside, find-walk, find_none, find_less, find_on, find_there)

-- ---- the row

pub set-none : (s : List ℕ) (x : Position) (a : std.Option FoundSet) → SetFinds s x a → a ≡ None → (row : List ℕ) → SetNexts s x row row None
set-none s x a u w row = let e : NoSet s x = subst (SetFoundIs s x) w u.is in record { is = record { none = e.rows; same = refl } }

module _ (s : List ℕ) (x : Position) (a : std.Option FoundSet) (u : SetFinds s x a) (r : FoundSet) (w : a ≡ Some r) where
  v : SetFound s x r
  v = subst (SetFoundIs s x) w u.is

  pub set_inside : Inside r.body (length s)
  set_inside = v.inside

  pub set-small : length s < 0x100000000
  set-small = v.small

  pub set-mesh : (mesh : ℕ) → mesh ≡ r.position.counts.meshes - 1 → mesh < 0x100000000
  set-mesh mesh e = omega (arith, v.walk.meshes, v.walk.run, v.small)

  pub set_first : r.position.counts.triangles < 0x100000000
  set_first = omega (arith, v.triangles, v.walk.inside.before, v.walk.inside.within, v.small)

  module _ (n : ℕ) (en : n ≡ length (plain_triangles (left r.body s)).triangles) where
    pub set_sum : Fits w64 (r.position.counts.triangles + n)
    set_sum = record { fits = omega (arith, v.triangles, v.walk.inside.before, v.walk.inside.within, v.small) }

    pub set_next : (mesh : ℕ) → mesh ≡ r.position.counts.meshes - 1 → (row put : List ℕ) → put ≡ stored row 0 (set_row mesh r.position.counts.triangles (plain_triangles (left r.body s)))
        → (y : Position) → y ≡ with_triangles n r.position → SetNexts s x row put (Some y)
    unfolding width if set_row
    set_next mesh em row put e y ey =
        subst (λ (z : Position). SetNexts s x row put (Some z)) (sym (ey ∙ ap (λ (i : ℕ). with_triangles i r.position) en))
        (record {
          is = record {
            comes = record { cells = set_row (r.position.counts.meshes - 1) r.position.counts.triangles (plain_triangles (left r.body s)); is = v.rows; wide = refl; stores = rw em at e };
            position = record {
              walk = record { run = v.walk.run; inside = v.walk.inside; nodes = v.walk.nodes; meshes = v.walk.meshes };
              small = v.small;
              before = v.before;
              triangles = v.triangles;
            };
          };
        })

pub ruleset set_laws = (set-none, set_inside, set-small, set-mesh, set_first, set_sum, set_next)
