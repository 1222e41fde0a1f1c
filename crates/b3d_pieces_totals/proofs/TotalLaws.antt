-- What a chunk changes in the totals, in the words of the code.
use mathlib.Core.Path.{◌≡◌, refl, ap, sym, ◌∙◌}
use Prim.Native.Nat.{ℕ, zero, suc}
use native.Mathlib.Omega.{arith}
use mathlib.Core.Bool.{Bool, true, false}
use mathlib.Core.Option.{Option, none, some}
use borrow.Author.Tests.{eq-eqb, ne_eqb}
use Rattle.wire.specs.Test.{if}
use Rattle.b3d_spec.specs.declared.Tag.{Tag}
use Rattle.b3d_spec.specs.declared.Tag.TheVariants.{BB3D, TEXS, BRUS, NODE, MESH, VRTS, TRIS, BONE, KEYS, ANIM}
use Rattle.b3d_spec.specs.declared.Counts.{Counts}
use Rattle.b3d_spec.specs.Tags.{is}
use Rattle.b3d_spec.specs.Rules.{bone_limit, bone_limit_from}
use Rattle.b3d_pieces_spec.specs.declared.Totals.{Totals}
use Rattle.b3d_pieces_spec.specs.declared.Kept.{Kept}
use Rattle.b3d_pieces_spec.specs.Bodies.{above, saying, rows_with, file_with, headed, one_more, entered, slots_for, rows_after, bone_limit_restored, closed}

-- ---- what is said of bones

by-anim : (a : Option ℕ) (own : ℕ) → bone_limit (bone_limit_from a true own) ≡ own
by-anim none own = refl
by-anim (some n) own = refl

module _ (anim : Bool) (own : ℕ) (g : Totals) (r : ℕ) where
  pub below-anim : anim ≡ true → r ≡ own → r ≡ bone_limit (bone_limit_from (above g) anim own)
  below-anim e q = rw e (q ∙ sym (by-anim (above g) own))

  pub below_root : anim ≡ false → g.rows.nodes ≡ 1 → r ≡ own → r ≡ bone_limit (bone_limit_from (above g) anim own)
  unfolding above if
  below_root e h q = rw (e, eq-eqb g.rows.nodes 1 h) q

  pub below-told : anim ≡ false → (g.rows.nodes ≡ 1 → ⊥) → r ≡ g.told → r ≡ bone_limit (bone_limit_from (above g) anim own)
  unfolding above if
  below-told e h q = rw (e, ne_eqb g.rows.nodes 1 h) q

pub ruleset below_laws = (below-anim, below_root, below-told)

pub says_is : (anim : Bool) (own : ℕ) (g : Totals) (b : ℕ) → b ≡ bone_limit (bone_limit_from (above g) anim own) → (r : Totals)
    → r ≡ record { version = g.version; slots = g.slots; textures = g.textures; brushes = g.brushes; own = own; told = g.told; below = b; rows = g.rows } → r ≡ saying anim own g
says_is anim own g b e r q = rw (← e) q

-- ---- fixed data, and a node that begins

module _ (t : Tag) (b : Bool) (eb : b ≡ is t BB3D) (k : Kept) (g r : Totals) where
  pub headed-file : b ≡ true → r ≡ file_with g k.first g.slots g.textures g.brushes → r ≡ headed t k g
  headed-file e q = rw (sym eb ∙ e) q

  pub headed-other : b ≡ false → r ≡ g → r ≡ headed t k g
  headed-other e q = rw (sym eb ∙ e) q

pub ruleset headed_laws = (headed-file, headed-other)

pub begins-is : (g x r : Totals) → x ≡ one_more g → r ≡ saying false 0 x → r ≡ entered g
begins-is g x r e q = q ∙ ap (saying false 0) e

pub slots-none : (c s r : ℕ) → c ≡ 0 → r ≡ 0 → r ≡ slots_for c s
slots-none zero s r e q = q
slots-none (suc c) s r e q = absurd (omega arith)

pub slots-some : (c s r : ℕ) → (c ≡ 0 → ⊥) → r ≡ s → r ≡ slots_for c s
slots-some zero s r e q = absurd (e refl)
slots-some (suc c) s r e q = q

-- ---- a chunk that is left

pub rows_as : (t u : Tag) → t ≡ u → (c : ℕ) (n r : Counts) → r ≡ rows_after u c n → r ≡ rows_after t c n
rows_as t u e c n r q = rw e q

module _ (t : Tag) (c : ℕ) (k : Kept) (told : ℕ) (g r : Totals) where
  pub leave_same : t ≡ BB3D → r ≡ g → r ≡ closed t c k told g
  leave_same e q = rw e q

  pub leave_texs : t ≡ TEXS → r ≡ file_with g g.version g.slots c g.brushes → r ≡ closed t c k told g
  leave_texs e q = rw e q

  pub leave_brus : t ≡ BRUS → (s : ℕ) → s ≡ slots_for c k.first → r ≡ file_with g g.version s g.textures c → r ≡ closed t c k told g
  leave_brus e s es q = rw (e, ← es) q

  pub leave_node : t ≡ NODE → r ≡ bone_limit_restored g told → r ≡ closed t c k told g
  leave_node e q = rw e q

  pub leave_anim : t ≡ ANIM → r ≡ saying true g.own g → r ≡ closed t c k told g
  leave_anim e q = rw e q

  module _ (n : Counts) (en : n ≡ rows_after t c g.rows) (x : Totals) (ex : x ≡ rows_with g n) where
    is-rows : x ≡ rows_with g (rows_after t c g.rows)
    is-rows = ex ∙ ap (rows_with g) en

    pub leave_mesh : t ≡ MESH → r ≡ x → r ≡ closed t c k told g
    leave_mesh e q = q ∙ is-rows ∙ rw e

    pub leave_tris : t ≡ TRIS → r ≡ x → r ≡ closed t c k told g
    leave_tris e q = q ∙ is-rows ∙ rw e

    pub leave_bone : t ≡ BONE → r ≡ x → r ≡ closed t c k told g
    leave_bone e q = q ∙ is-rows ∙ rw e

    pub leave_keys : t ≡ KEYS → r ≡ x → r ≡ closed t c k told g
    leave_keys e q = q ∙ is-rows ∙ rw e

    pub leave_vrts : t ≡ VRTS → r ≡ saying false c x → r ≡ closed t c k told g
    leave_vrts e q = q ∙ ap (saying false c) is-rows ∙ rw e

pub ruleset leave_laws = (leave_same, leave_texs, leave_brus, leave_node, leave_anim, leave_mesh, leave_tris, leave_bone, leave_keys, leave_vrts)
