-- `kind_valid` answers `kind_valid` of the row's cells.
use Rattle.std.proofs.Common.{ap, eq-eqb, ne_eqb, not}
use Rattle.b3d_check_node.proofs.KindLaws.{kind_wrong, kind-past, kind-mesh, bone_wrong, kind-bone, kind-other}
use Rattle.b3d_check_node.proofs.kind_valid.Goals as goal

pub returns-then-not-first-n : goal.returns-then-not-first-n
returns-then-not-first-n c = kind_wrong _ _ _ _ _ _ _ _ _ _ _ _ c.cell-first.ensures c.cell-count.ensures c.requires.below.0 c.if-kind-eq1.true (ap not c.if-not-first-n.true)

pub returns-then-all-n : goal.returns-then-all-n
returns-then-all-n c = kind-past _ _ _ _ _ _ _ _ _ _ _ _ c.cell-first.ensures c.cell-count.ensures c.requires.below.0 c.if-kind-eq1.true (ap not c.if-not-first-n.false) c.if-all-n.true

pub mesh_valid-requires : goal.mesh_valid-requires
mesh_valid-requires c = let n = c.requires.below.0 in let r = c.requires.below.1 in record { one = c.if-all-n.false; vertices = n.vertices; sets = n.sets; triangles = n.triangles; words₈ = _; rooms = r }

pub returns-then-kind-eq1 : goal.returns-then-kind-eq1
returns-then-kind-eq1 c = kind-mesh _ _ _ _ _ _ _ _ _ _ _ _ c.cell-first.ensures c.cell-count.ensures c.requires.below.0 c.if-kind-eq1.true (ap not c.if-not-first-n.false) c.if-all-n.false _ c.mesh_valid.ensures

pub returns-then-not-first-n-2 : goal.returns-then-not-first-n-2
returns-then-not-first-n-2 c = bone_wrong _ _ _ _ _ _ _ _ _ _ _ _ c.cell-first.ensures c.cell-count.ensures c.requires.below.0 c.if-kind-eq2.true (ap not (ne_eqb _ _ c.if-not-first-n-2.true))

pub weights_left-requires : goal.weights_left-requires
weights_left-requires c = let h = c.requires.below in (h.0.weights, h.1.room₈)

pub returns-then-kind-eq2 : goal.returns-then-kind-eq2
returns-then-kind-eq2 c = kind-bone _ _ _ _ _ _ _ _ _ _ _ _ c.cell-first.ensures c.cell-count.ensures c.requires.below.0 c.if-kind-eq2.true (ap not (eq-eqb _ _ c.if-not-first-n-2.false)) _ c.weights_left.ensures

pub returns : goal.returns
returns c = kind-other _ _ _ _ _ _ _ _ _ _ _ _ c.cell-first.ensures c.cell-count.ensures c.requires.below.0 c.if-kind-eq1.false c.if-kind-eq2.false
