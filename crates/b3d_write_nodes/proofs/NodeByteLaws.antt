-- The bytes of nodes by their parts: a head and a body, what is a node's own and the nodes below, a node and those after it.
use mathlib.Core.Path.{◌≡◌}
use mathlib.Core.List.{[], ◌++◌}
use Rattle.layout.specs.Write.{write_chunks as write_chunks_of}
use Rattle.shared_output.specs.Writing.{chunk}
use Rattle.shared_output.proofs.AppendLaws.{chunks-cons}
use Rattle.shared_output.proofs.PartLaws.{chunk-is}
use Rattle.b3d_spec.specs.declared.Tag.TheVariants.{NODE}
use Rattle.b3d_spec.specs.Encode.{write_node, node_chunks}
use Rattle.b3d_spec.specs.Scene.{Data, Forest, node}
use Rattle.b3d_spec.specs.Tags.{code}
use Rattle.b3d_write_node.proofs.PartLaws.{node-append}
use Rattle.b3d_write_nodes.specs.Walk.{nodes_bytes, body_bytes, node_bytes}

-- ---- bytes

-- a node's own, then those below
pub body-both : (d : Data) (ch : Forest) → body_bytes d ch ≡ write_node d [] ++ nodes_bytes ch
unfolding body_bytes nodes_bytes
body-both d ch = node-append d (node_chunks ch)

-- the chunk of a node
pub node-chunk : (d : Data) (ch : Forest) → node_bytes d ch ≡ chunk (code NODE) [] (body_bytes d ch)
unfolding node_bytes nodes_bytes body_bytes node_chunks write_chunks_of
node-chunk d ch = chunk-is code NODE [] (write_node d (node_chunks ch))

-- the first node, then the others
pub nodes-both : (d : Data) (ch sib : Forest) → nodes_bytes (node d ch sib) ≡ node_bytes d ch ++ nodes_bytes sib
unfolding node_bytes nodes_bytes node_chunks
nodes-both d ch sib = chunks-cons code _ (node_chunks sib)
