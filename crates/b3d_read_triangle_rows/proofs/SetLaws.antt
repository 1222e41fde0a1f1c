-- The loop of `put_sets` over the TRIS of a MESH.
use Rattle.std.specs.Prelude.{Some, None}
use Rattle.std.specs.Prelude as std
use Rattle.b3d_chunk_walk.specs.declared.Sought.{Sought}
use mathlib.Core.Path.{◌≡◌, refl, ap, sym, ◌∙◌}
use Prim.Native.Nat.{ℕ, ◌+◌, ◌-◌, ◌*◌, ◌<◌, ◌≤◌}
use native.Mathlib.Omega.{arith}
use mathlib.Core.Bool.{false}
use mathlib.Core.List.{List, [], ◌++◌}
use mir.Syntax.{w64}
use mir.Val.{Fits}
use lib.ListN.{length, length-append}
use lib.Seq.{sets}
use Rattle.wire.specs.Cursors.{Inside, left}
use Rattle.wire.specs.declared.Cursor.{Cursor}
use Rattle.wire.proofs.LeftLaws.{left-most}
use Rattle.b3d_spec.specs.declared.Tag.TheVariants.{TRIS}
use Rattle.layout.specs.Rows.{joined}
use Rattle.b3d_spec.specs.Tables.{set_rows, triangle_rows}
use Rattle.b3d_spec_plain_rows.specs.Plain.{plain_triangles, sets_of}
use Rattle.b3d_chunk_walk.specs.Walks.{BodyAt}
use Rattle.b3d_chunk_walk.specs.Seeks.{ahead, Seeks, FirstWord}
use Rattle.b3d_chunk_walk.specs.declared.Headed.{Headed}
use Rattle.b3d_chunk_walk.proofs.SeekLaws.{sought_among, sought_body, sought_next, sought_less}
use Rattle.b3d_chunk_walk.proofs.PutLaws.{Putting, put-start, put_long, put_room, put_more, put_done, put_end}
use Rattle.b3d_chunk_walk.proofs.MeshLaws.{mesh-inside, mesh-inner, no-set, one_set}
use Rattle.b3d_read_item_rows.specs.Items.{set_row}
use Rattle.b3d_read_item_rows.proofs.GroupLaws.{group-few}
use Rattle.b3d_read_triangle_rows.specs.Sets.{sets_in, triangle_count, SetsPut}
use Rattle.b3d_read_triangle_rows.specs.declared.After.{After}

-- the words of the sets from a cursor on, and their triangles
abbrev from : List ℕ → ℕ → ℕ → Cursor → List ℕ
from s i r c = joined (set_rows i r (sets_of (ahead s c)))

abbrev many : List ℕ → Cursor → ℕ
many s c = length (triangle_rows (sets_of (ahead s c)))

pub record SetsLeft (s : List ℕ) (c₀ : Cursor) (mesh first base : ℕ) (out₀ : List ℕ) (c : Cursor) (out : List ℕ) (o n : ℕ) : Type 0 where
  pub inside : Inside c (length s)
  pub same_end : c.end ≡ c₀.end
  pub puts : Putting out₀ base (from s mesh first c₀) out o (from s mesh n c)
  pub total : n + many s c ≡ first + many s c₀
  pub few : n ≤ c.at
  pub few_words : o ≤ 4 * c.at

module _ (s : List ℕ) (p : ℕ) (b : Cursor) (mesh first base : ℕ) (out₀ : List ℕ) (y : BodyAt s p b) (g : Headed) (u : FirstWord s b g) where
  all : from s mesh first g.rest ≡ joined (sets_in p (left b s) mesh first)
  unfolding sets_in
  all = ap (λ l. joined (set_rows mesh first (sets_of l))) (mesh-inner s p b y g u)

  total_is : many s g.rest ≡ triangle_count p (left b s)
  unfolding triangle_count
  total_is = ap (λ l. length (triangle_rows (sets_of l))) (mesh-inner s p b y g u)

  pub sets_start : first ≤ p → base ≤ 4 * p → SetsLeft s g.rest mesh first base out₀ g.rest out₀ base first
  sets_start f w = record {
    inside = u.inside;
    same_end = refl;
    puts = put-start _ refl;
    total = refl;
    few = omega (arith, y.head, u.onward);
    few_words = omega (arith, y.head, u.onward);
  }

  module _ (c : Cursor) (out : List ℕ) (o n : ℕ) (v : SetsLeft s g.rest mesh first base out₀ c out o n) where
    pub sets_inside : Inside c (length s)
    sets_inside = v.inside

    pub sets_long : length out ≡ length out₀
    sets_long = put_long v.puts

    pub sets_first : length s < 0x100000000 → n < 0x100000000
    sets_first small = omega (arith, v.few, v.inside.before, v.inside.within)

    pub sets_word : length s < 0x100000000 → Fits w64 (o + 4)
    sets_word small = record { fits = omega (arith, v.few_words, v.inside.before, v.inside.within) }

    module _ (r : std.Option Sought) (x : Seeks s c TRIS r) where
      module _ (w : r ≡ None) where
        none : from s mesh n c ≡ []
        unfolding joined set_rows
        none = ap (λ l. joined (set_rows mesh n l)) (no-set s c r x w)

        none_many : many s c ≡ 0
        unfolding triangle_rows
        none_many = ap (λ l. length (triangle_rows l)) (no-set s c r x w)

        pub sets_done : (a : After) → a ≡ record { base = o; first = n } → SetsPut s p b mesh first base out₀ out a
        sets_done a ea =
            rw ea
            (record {
              stores = put_done v.puts none ∙ ap (sets out₀ base) all;
              base_is = put_end v.puts none ∙ ap (λ l. base + length l) all;
              first_is = omega (arith, v.total, none_many, total_is);
              few_words = omega (arith, v.few_words, v.inside.before, v.same_end, u.to_end);
              few = omega (arith, v.few, v.inside.before, v.same_end, u.to_end);
            })

      module _ (d : Sought) (w : r ≡ Some d) where
        pub set_body : Inside d.body (length s)
        set_body = sought_body s c TRIS r x d w (length s) v.inside

        pub set_less : d.next.end - d.next.at < c.end - c.at
        set_less = sought_less s c TRIS r x d w

        one : (k : ℕ) → k ≡ length (plain_triangles (left d.body s)).triangles → from s mesh n c ≡ set_row mesh n (plain_triangles (left d.body s)) ++ from s mesh (n + k) d.next
        unfolding set_rows set_row joined
        one k ek = ap (λ l. joined (set_rows mesh n l)) (one_set s c r x d w) ∙ rw ek

        pub set_room : base + length (joined (sets_in p (left b s) mesh first)) ≤ length out₀ → o + 4 ≤ length out
        unfolding set_row
        set_room h = put_room v.puts (rw all h) (set_row mesh n (plain_triangles (left d.body s))) (from s mesh (n + length (plain_triangles (left d.body s)).triangles) d.next) (one _ refl)

        module _ (k : ℕ) (ek : k ≡ length (plain_triangles (left d.body s)).triangles) where
          bound : n + k ≤ d.next.at
          bound =
              let f = sought_among s c TRIS r x d w in
              omega (arith, group-few false (left d.body s), left-most s d.body, v.few)

          pub set_sum : length s < 0x100000000 → Fits w64 (n + k)
          set_sum small =
              let i = sought_next s c TRIS r x d w (length s) v.inside in
              record { fits = omega (arith, bound) }

          more : many s c ≡ k + many s d.next
          unfolding triangle_rows
          more =
              ap (λ l. length (triangle_rows l)) (one_set s c r x d w) ∙ length-append (plain_triangles (left d.body s)).triangles (triangle_rows (sets_of (ahead s d.next)))
              ∙ ap (λ (j : ℕ). j + many s d.next) (sym ek)

          pub set_put : (put : List ℕ) → put ≡ sets out o (set_row mesh n (plain_triangles (left d.body s))) → SetsLeft s g.rest mesh first base out₀ d.next put (o + 4) (n + k)
          unfolding set_row
          set_put put ep =
              let f = sought_among s c TRIS r x d w in
              record {
                inside = sought_next s c TRIS r x d w (length s) v.inside;
                same_end = f.same ∙ v.same_end;
                puts = put_more v.puts (set_row mesh n (plain_triangles (left d.body s))) (from s mesh (n + k) d.next) put (o + 4) (one k ek) refl ep;
                total = omega (arith, v.total, more);
                few = bound;
                few_words = omega (arith, v.few_words);
              }

pub ruleset sets_laws = (mesh-inside, sets_start, sets_inside, sets_long, sets_first, sets_word, sets_done, set_body, set_less, set_room, set_sum, set_put)
