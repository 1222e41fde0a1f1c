-- The rows of an accepted file are those of the scene that it holds.
use mathlib.Core.Path.{◌≡◌, refl, subst}
use Prim.Native.Nat.{ℕ, ◌+◌}
use mathlib.Core.Option.{none}
use mathlib.Core.List.{List, [], map}
use lib.ListN.{length}
use Rattle.wire.specs.Test.{if}
use Rattle.layout.specs.Chunks.{done, chunk}
use Rattle.layout.specs.Result.{accept}
use Rattle.layout.proofs.ResultLaws.{by_got, got_inj}
use Rattle.b3d_spec.specs.declared.Mode.TheVariants.{Lenient}
use Rattle.b3d_spec.specs.declared.Tag.TheVariants.{TEXS, BRUS, NODE}
use Rattle.b3d_spec.specs.Parse.{read_textures, read_brushes, read_node, read_root, slots_of, parse, Inner}
use Rattle.b3d_spec.specs.Rules.{levels}
use Rattle.b3d_spec.specs.Scene.{Texture, Brush, Forest, no_nodes, node, Scene}
use Rattle.b3d_spec.specs.Tables.{texture_row, brush_row}
use Rattle.b3d_spec.specs.Tags.{Chunks}
use Rattle.b3d_spec_chunk_places.proofs.FileChunkLaws.{file-read}
use Rattle.b3d_spec_plain_rows.specs.Flat.{rest}
use Rattle.b3d_spec_plain_rows.specs.Rows.{texture_rows, brush_rows, first_of}
use Rattle.b3d_spec_plain_rows.proofs.MaterialLaws.{textures-plain, brushes-plain}
use Rattle.b3d_spec_plain_rows.proofs.FlatRunLaws.{Here, Laid, rest_laid}

-- what is said of the nodes from a place on: at the file's end, past a chunk that is no NODE, and of a root
pub record Says (s : List ℕ) (P : ℕ → Forest → Type 0) : Type 0 where
  pub at-end : (at : ℕ) → rest s at ≡ rest s (length s) → P at no_nodes
  pub texs : (at p : ℕ) (b : List ℕ) (f : Forest) → Here s at TEXS p b → P (p + 8 + length b) f → P at f
  pub brus : (at p : ℕ) (b : List ℕ) (f : Forest) → Here s at BRUS p b → P (p + 8 + length b) f → P at f
  pub root : (brushes at p : ℕ) (b : List ℕ) (x : Inner) → Here s at NODE p b → read_node Lenient levels brushes none p b ≡ accept x → P (p + 8 + length b) no_nodes → P at (node x.self x.below no_nodes)

module _ (s : List ℕ) (P : ℕ → Forest → Type 0) (says : Says s P) where
  -- among these chunks, from a place on, are these textures, brushes and nodes
  pub record Has (at : ℕ) (cs : Chunks) (ts : List Texture) (bs : List Brush) (f : Forest) : Type 0 where
    pub texs : first_of TEXS texture_rows cs ≡ map texture_row ts
    pub brus : first_of BRUS brush_rows cs ≡ map brush_row bs
    pub nodes : P at f

  nothing : (at : ℕ) → Laid s (length s) at done → Has at done [] [] no_nodes
  unfolding first_of
  nothing at e = record { texs = refl; brus = refl; nodes = says.at-end at e }

  -- where the chunks are laid from a place on
  abbrev Flatly : Chunks → List Texture → ℕ → List Brush → Forest → Type 0
  Flatly cs ts slots bs f = (at : ℕ) → Laid s (length s) at cs → Has at cs ts bs f

  one-root : (brushes p : ℕ) (b : List ℕ) (f : Forest) → read_root Lenient brushes p b ≡ accept f → Flatly (chunk NODE p b done) [] 0 [] f
  unfolding read_root first_of if
  one-root brushes p b f e at h =
      by_got (read_node Lenient levels brushes none p b) _ e (λ x ex e₁.
      record { texs = refl; brus = refl; nodes = subst (P at) (got_inj e₁) (says.root brushes at p b x h.0 ex (says.at-end (p + 8 + length b) h.1)) })

  one_brus : (textures p : ℕ) (b : List ℕ) (r : Chunks) (f : Forest) (v : ℕ × List Brush) → read_brushes Lenient textures p b ≡ accept v → Flatly r [] 0 [] f
      → Flatly (chunk BRUS p b r) [] (slots_of v.0 v.1) v.1 f
  unfolding first_of if
  one_brus textures p b r f v e more at h =
      let left = more (p + 8 + length b) h.1 in
      record { texs = left.texs; brus = brushes-plain textures p b v e; nodes = says.brus at p b f h.0 left.nodes }

  one_texs : (p : ℕ) (b : List ℕ) (r : Chunks) (slots : ℕ) (bs : List Brush) (f : Forest) (l : List Texture) → read_textures p b ≡ accept l → Flatly r [] slots bs f
      → Flatly (chunk TEXS p b r) l slots bs f
  unfolding first_of if
  one_texs p b r slots bs f l e more at h =
      let left = more (p + 8 + length b) h.1 in
      record { texs = textures-plain p b l e; brus = left.brus; nodes = says.texs at p b f h.0 left.nodes }

  pub file-flat : (t : Scene) → parse Lenient s ≡ accept t → Has 12 (rest s 12) t.textures t.brushes t.nodes
  unfolding rest
  file-flat t e = (file-read Lenient Flatly (record { none = nothing; root = one-root; brus = one_brus; texs = one_texs }) s t e).chunks 12 (rest_laid s 12)
