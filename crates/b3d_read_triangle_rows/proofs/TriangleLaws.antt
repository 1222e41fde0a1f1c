-- The triangles of a MESH: the loop of `store_triangles`.
use Rattle.std.specs.Prelude.{Some, None}
use Rattle.std.specs.Prelude as std
use Rattle.b3d_chunk_walk.specs.declared.Sought.{Sought}
use mathlib.Core.Path.{◌≡◌, refl, ap, sym, ◌∙◌}
use Prim.Native.Nat.{ℕ, ◌+◌, ◌-◌, ◌<◌, ◌≤◌}
use mathlib.Core.List.{List, [], ◌++◌}
use lib.ListN.{length}
use lib.Seq.{sets}
use Rattle.wire.specs.Cursors.{Inside, left}
use Rattle.wire.specs.declared.Cursor.{Cursor}
use Rattle.b3d_spec.specs.declared.Tag.TheVariants.{TRIS}
use Rattle.layout.specs.Rows.{joined}
use Rattle.layout.proofs.ListLaws.{joined-append}
use Rattle.b3d_spec.specs.Tables.{triangle_rows}
use Rattle.b3d_spec_plain_rows.specs.Plain.{whole, plain_triangles, sets_of}
use Rattle.b3d_chunk_walk.specs.Walks.{BodyAt}
use Rattle.b3d_chunk_walk.specs.Seeks.{ahead, Seeks, FirstWord}
use Rattle.b3d_chunk_walk.specs.declared.Headed.{Headed}
use Rattle.b3d_chunk_walk.proofs.SeekLaws.{sought_body, sought_next, sought_less}
use Rattle.b3d_chunk_walk.proofs.PutLaws.{Putting, put-start, put_long, put_room, put_more, put_done, put_end}
use Rattle.b3d_read_triangle_rows.specs.Sets.{triangles_in}
use Rattle.b3d_chunk_walk.proofs.MeshLaws.{mesh-inside, mesh-inner, no-set, one_set}

-- the words of the triangles from a cursor on
abbrev from : List ℕ → Cursor → List ℕ
from s c = joined (triangle_rows (sets_of (ahead s c)))

-- of the triangles from c₀ on what is left stands from c on
pub record TrianglesLeft (s : List ℕ) (c₀ : Cursor) (base : ℕ) (out₀ : List ℕ) (c : Cursor) (out : List ℕ) (o : ℕ) : Type 0 where
  pub inside : Inside c (length s)
  pub puts : Putting out₀ base (from s c₀) out o (from s c)

module _ (s : List ℕ) (p : ℕ) (b : Cursor) (base : ℕ) (out₀ : List ℕ) (y : BodyAt s p b) (g : Headed) (u : FirstWord s b g) where
  all : from s g.rest ≡ joined (triangles_in p (left b s))
  unfolding triangles_in
  all = ap (λ l. joined (triangle_rows (sets_of l))) (mesh-inner s p b y g u)

  pub triangles_start : TrianglesLeft s g.rest base out₀ g.rest out₀ base
  triangles_start = record { inside = u.inside; puts = put-start _ refl }

  module _ (c : Cursor) (out : List ℕ) (o : ℕ) (v : TrianglesLeft s g.rest base out₀ c out o) where
    pub triangles_inside : Inside c (length s)
    triangles_inside = v.inside

    pub triangles_long : length out ≡ length out₀
    triangles_long = put_long v.puts

    module _ (r : std.Option Sought) (x : Seeks s c TRIS r) where
      module _ (w : r ≡ None) where
        none : from s c ≡ []
        unfolding joined triangle_rows
        none = ap (λ l. joined (triangle_rows l)) (no-set s c r x w)

        pub triangles_done : out ≡ sets out₀ base (joined (triangles_in p (left b s)))
        triangles_done = put_done v.puts none ∙ ap (sets out₀ base) all

        pub triangles_end : o ≡ base + length (joined (triangles_in p (left b s)))
        triangles_end = put_end v.puts none ∙ ap (λ l. base + length l) all

      module _ (d : Sought) (w : r ≡ Some d) where
        pub set_body : Inside d.body (length s)
        set_body = sought_body s c TRIS r x d w (length s) v.inside

        pub set_less : d.next.end - d.next.at < c.end - c.at
        set_less = sought_less s c TRIS r x d w

        module _ (h : Headed) (f : FirstWord s d.body h) where
          some : from s c ≡ joined (whole 3 (left h.rest s)) ++ from s d.next
          unfolding triangle_rows plain_triangles
          some = ap (λ l. joined (triangle_rows l)) (one_set s c r x d w) ∙ joined-append _ _ ∙ ap (λ l. joined (whole 3 l) ++ from s d.next) (sym f.after)

          pub set_inside : Inside h.rest (length s)
          set_inside = f.inside

          pub set_room : base + length (joined (triangles_in p (left b s))) ≤ length out₀ → o + length (joined (whole 3 (left h.rest s))) ≤ length out
          set_room m = put_room v.puts (rw all m) (joined (whole 3 (left h.rest s))) (from s d.next) some

          pub set_put : (put : List ℕ) (to : ℕ) → to ≡ o + length (joined (whole 3 (left h.rest s))) → put ≡ sets out o (joined (whole 3 (left h.rest s)))
              → TrianglesLeft s g.rest base out₀ d.next put to
          set_put put to et ep = record { inside = sought_next s c TRIS r x d w (length s) v.inside; puts = put_more v.puts (joined (whole 3 (left h.rest s))) (from s d.next) put to some et ep }

pub ruleset triangles_laws = (mesh-inside, triangles_start, triangles_inside, triangles_long, triangles_done, triangles_end, set_body, set_less, set_inside, set_room, set_put)
