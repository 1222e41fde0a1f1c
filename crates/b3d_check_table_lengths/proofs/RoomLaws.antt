-- The laws of counts and rooms.
use mathlib.Core.Path.{◌≡◌, sym, ◌∙◌, subst}
use Prim.Native.Nat.{ℕ, ◌*◌, ◌≤◌, ◌<◌}
use native.Mathlib.Nat.{mul-le-mul}
use native.Mathlib.Omega.{arith}
use mathlib.Core.Bool.{Bool, false, not, ◌&&◌}
use mathlib.Core.List.{List}
use lib.ListN.{get_or}
use lib.Dec.{T, leb, leb→le}
use borrow.Author.Tests.{not-false, lt-leb, le-leb}
use mir.Facts.{and_yes}
use mir.Syntax.{w64}
use mir.Val.{Fits}
use Rattle.b3d_spec.specs.Rules.{row_limit}
use Rattle.b3d_spec.specs.Tables.{node_width}
use Rattle.b3d_spec.specs.declared.Counts.{Counts}
use Rattle.b3d_check_table_lengths.specs.LentRooms.{part_counts, fits_in, rooms, Rooms}

-- ---- rooms

module _ (c w l : ℕ) where
  pub fits-past : row_limit < c → false ≡ fits_in c w l
  unfolding fits_in
  fits-past h = rw (lt-leb c row_limit h)

  pub fits_in_rows : c ≤ row_limit → leb (w * c) l ≡ fits_in c w l
  unfolding fits_in
  fits_in_rows h = rw (le-leb c row_limit h)

  pub fits-product : w ≤ 42 → c ≤ row_limit → Fits w64 (w * c)
  fits-product h k = let p : w * c ≤ 42 * row_limit = mul-le-mul h k in record { fits = omega arith }

  fits-says : T (fits_in c w l) → (c ≤ row_limit) × (w * c ≤ l)
  unfolding fits_in
  fits-says t = let u = and_yes (leb c row_limit) _ t in (leb→le c row_limit u.0, leb→le (w * c) l u.1)

pub ruleset fits_laws = (fits-past, fits_in_rows, fits-product)

pub rooms_are : (c₁ c₂ : ℕ) (a : Counts) (l₁ l₂ l₃ l₄ l₅ l₆ l₇ l₈ l₉ l₁₀ : ℕ) (b₁ b₂ b₃ b₄ b₅ b₆ b₇ b₈ b₉ b₁₀ : Bool)
    → b₁ ≡ fits_in c₁ 9 l₁
    → b₂ ≡ fits_in c₂ 17 l₂
    → b₃ ≡ fits_in a.nodes node_width l₃
    → b₄ ≡ fits_in a.meshes 9 l₄
    → b₅ ≡ fits_in a.vertices 42 l₅
    → b₆ ≡ fits_in a.sets 4 l₆
    → b₇ ≡ fits_in a.triangles 3 l₇
    → b₈ ≡ fits_in a.weights 2 l₈
    → b₉ ≡ fits_in a.lists 4 l₉
    → b₁₀ ≡ fits_in a.keys 11 l₁₀
    → (b₁ && (b₂ && (b₃ && (b₄ && (b₅ && (b₆ && (b₇ && (b₈ && (b₉ && b₁₀))))))))) ≡ rooms c₁ c₂ a l₁ l₂ l₃ l₄ l₅ l₆ l₇ l₈ l₉ l₁₀
unfolding rooms
rooms_are c₁ c₂ a l₁ l₂ l₃ l₄ l₅ l₆ l₇ l₈ l₉ l₁₀ b₁ b₂ b₃ b₄ b₅ b₆ b₇ b₈ b₉ b₁₀ e₁ e₂ e₃ e₄ e₅ e₆ e₇ e₈ e₉ e₁₀ = rw (e₁, e₂, e₃, e₄, e₅, e₆, e₇, e₈, e₉, e₁₀)

module _ (c₁ c₂ : ℕ) (a : Counts) (l₁ l₂ l₃ l₄ l₅ l₆ l₇ l₈ l₉ l₁₀ : ℕ) where
  rooms_facts : T (rooms c₁ c₂ a l₁ l₂ l₃ l₄ l₅ l₆ l₇ l₈ l₉ l₁₀) → Rooms c₁ c₂ a l₁ l₂ l₃ l₄ l₅ l₆ l₇ l₈ l₉ l₁₀
  unfolding rooms
  rooms_facts t =
      let s₁ = and_yes (fits_in c₁ 9 l₁) _ t in
      let s₂ = and_yes (fits_in c₂ 17 l₂) _ s₁.1 in
      let s₃ = and_yes (fits_in a.nodes node_width l₃) _ s₂.1 in
      let s₄ = and_yes (fits_in a.meshes 9 l₄) _ s₃.1 in
      let s₅ = and_yes (fits_in a.vertices 42 l₅) _ s₄.1 in
      let s₆ = and_yes (fits_in a.sets 4 l₆) _ s₅.1 in
      let s₇ = and_yes (fits_in a.triangles 3 l₇) _ s₆.1 in
      let s₈ = and_yes (fits_in a.weights 2 l₈) _ s₇.1 in
      let s₉ = and_yes (fits_in a.lists 4 l₉) _ s₈.1 in
      let f₁ = fits-says c₁ 9 l₁ s₁.0 in
      let f₂ = fits-says c₂ 17 l₂ s₂.0 in
      let f₃ = fits-says a.nodes node_width l₃ s₃.0 in
      let f₄ = fits-says a.meshes 9 l₄ s₄.0 in
      let f₅ = fits-says a.vertices 42 l₅ s₅.0 in
      let f₆ = fits-says a.sets 4 l₆ s₆.0 in
      let f₇ = fits-says a.triangles 3 l₇ s₇.0 in
      let f₈ = fits-says a.weights 2 l₈ s₈.0 in
      let f₉ = fits-says a.lists 4 l₉ s₉.0 in
      let f₁₀ = fits-says a.keys 11 l₁₀ s₉.1 in
      record {
        few₁ = f₁.0;
        few₂ = f₂.0;
        limited = record { nodes = f₃.0; meshes = f₄.0; vertices = f₅.0; sets = f₆.0; triangles = f₇.0; weights = f₈.0; lists = f₉.0; keys = f₁₀.0 };
        room₁ = f₁.1;
        room₂ = f₂.1;
        room₃ = f₃.1;
        kinds = record { room₄ = f₄.1; room₅ = f₅.1; room₆ = f₆.1; room₇ = f₇.1; room₈ = f₈.1 };
        lists = record { room₉ = f₉.1; room₁₀ = f₁₀.1 };
      }

  pub rooms-true : (r : Bool) → r ≡ rooms c₁ c₂ a l₁ l₂ l₃ l₄ l₅ l₆ l₇ l₈ l₉ l₁₀ → not r ≡ false → Rooms c₁ c₂ a l₁ l₂ l₃ l₄ l₅ l₆ l₇ l₈ l₉ l₁₀
  rooms-true r e f = rooms_facts (subst T (sym (sym e ∙ not-false r f)) tt)

-- ---- counts

pub sizes_are : (counts : List ℕ) (n₃ n₄ n₅ n₆ n₇ n₈ n₉ n₁₀ : ℕ) → n₃ ≡ get_or counts 2 0 → n₄ ≡ get_or counts 3 0 → n₅ ≡ get_or counts 4 0 → n₆ ≡ get_or counts 5 0
    → n₇ ≡ get_or counts 6 0 → n₈ ≡ get_or counts 7 0 → n₉ ≡ get_or counts 8 0 → n₁₀ ≡ get_or counts 9 0 → (x : Counts)
    → x ≡ record { nodes = n₃; meshes = n₄; vertices = n₅; sets = n₆; triangles = n₇; weights = n₈; lists = n₉; keys = n₁₀ } → x ≡ part_counts counts
unfolding part_counts
sizes_are counts n₃ n₄ n₅ n₆ n₇ n₈ n₉ n₁₀ e₃ e₄ e₅ e₆ e₇ e₈ e₉ e₁₀ x q = q ∙ rw (e₃, e₄, e₅, e₆, e₇, e₈, e₉, e₁₀)
