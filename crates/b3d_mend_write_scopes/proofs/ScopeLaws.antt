-- The scopes.
use mathlib.Core.Path.{◌≡◌, refl}
use Prim.Native.Nat.{ℕ, ◌+◌}
use mathlib.Core.Bool.{Bool, true, false}
use Rattle.wire.specs.Test.{if}
use Rattle.b3d_spec.specs.declared.Tag.{Tag}
use Rattle.b3d_spec.specs.declared.Tag.TheVariants.{BB3D, TEXS, BRUS, NODE, MESH, VRTS, TRIS, BONE, KEYS, ANIM}
use Rattle.b3d_mend_write_scopes.specs.Shown.{next_scope, node_scope, mesh_scope}
use Rattle.b3d_mend_write_scopes.specs.declared.Scope.{Scope}
use Rattle.b3d_mend_write_scopes.specs.Heads.{body_at}

pub body-report : (report : Bool) (at : ℕ) → report ≡ true → at ≡ body_at report at
body-report report at e = rw e

pub body-file : (report : Bool) (at : ℕ) → report ≡ false → at + 8 ≡ body_at report at
body-file report at e = rw e

module _ (c : Scope) (tag : Tag) (n : ℕ) where
  pub scope_texs : tag ≡ TEXS → record { textures = n; brushes = c.brushes; top = c.top; root = c.root; bones = c.bones; own = c.own; told = c.told } ≡ next_scope c tag n
  unfolding next_scope
  scope_texs e = rw e

  pub scope_brus : tag ≡ BRUS → record { textures = c.textures; brushes = n; top = c.top; root = c.root; bones = c.bones; own = c.own; told = c.told } ≡ next_scope c tag n
  unfolding next_scope
  scope_brus e = rw e

  pub scope_vrts : tag ≡ VRTS → record { textures = c.textures; brushes = c.brushes; top = c.top; root = c.root; bones = c.bones; own = n; told = c.told } ≡ next_scope c tag n
  unfolding next_scope
  scope_vrts e = rw e

  pub scope_anim : tag ≡ ANIM → record { textures = c.textures; brushes = c.brushes; top = c.top; root = c.root; bones = c.bones; own = c.own; told = c.own } ≡ next_scope c tag n
  unfolding next_scope
  scope_anim e = rw e

  pub scope_root : tag ≡ MESH → c.root ≡ true → record { textures = c.textures; brushes = c.brushes; top = c.top; root = c.root; bones = c.bones; own = n; told = n } ≡ next_scope c tag n
  unfolding next_scope if
  scope_root e h = rw (e, h)

  pub scope_mesh : tag ≡ MESH → c.root ≡ false → record { textures = c.textures; brushes = c.brushes; top = c.top; root = c.root; bones = c.bones; own = n; told = c.told } ≡ next_scope c tag n
  unfolding next_scope if
  scope_mesh e h = rw (e, h)

  pub scope_bb3d : tag ≡ BB3D → c ≡ next_scope c tag n
  unfolding next_scope
  scope_bb3d e = rw e

  pub scope_node : tag ≡ NODE → c ≡ next_scope c tag n
  unfolding next_scope
  scope_node e = rw e

  pub scope_tris : tag ≡ TRIS → c ≡ next_scope c tag n
  unfolding next_scope
  scope_tris e = rw e

  pub scope_bone : tag ≡ BONE → c ≡ next_scope c tag n
  unfolding next_scope
  scope_bone e = rw e

  pub scope_keys : tag ≡ KEYS → c ≡ next_scope c tag n
  unfolding next_scope
  scope_keys e = rw e

pub node-inside : (c : Scope) → record { textures = c.textures; brushes = c.brushes; top = false; root = c.top; bones = c.told; own = 0; told = c.told } ≡ node_scope c
unfolding node_scope
node-inside c = refl

pub mesh-inside : (c : Scope) → record { textures = c.textures; brushes = c.brushes; top = false; root = false; bones = c.bones; own = 0; told = c.told } ≡ mesh_scope c
unfolding mesh_scope
mesh-inside c = refl

pub ruleset scope_laws = (body-report, body-file, scope_texs, scope_brus, scope_vrts, scope_anim, scope_root, scope_mesh, scope_bb3d, scope_node, scope_tris, scope_bone, scope_keys, node-inside, mesh-inside)
