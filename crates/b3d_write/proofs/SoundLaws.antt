-- What sound tables have.
use mathlib.Core.Path.{◌≡◌, sym, subst}
use Prim.Native.Nat.{ℕ, ◌≤◌}
use native.Mathlib.Omega.{arith}
use mathlib.Core.Option.{none, some}
use mathlib.Core.List.{List}
use lib.ListN.{length, get_or}
use Rattle.wire.specs.Test.{if}
use Rattle.layout.specs.Rules.{NONE}
use Rattle.layout.proofs.AllLaws.{All}
use Rattle.b3d_spec.specs.declared.Mode.{Mode}
use Rattle.b3d_spec.specs.Encode.{encode}
use Rattle.b3d_spec.specs.Rebuild.{Lent, cut, lent_rows, rebuild}
use Rattle.b3d_spec.specs.Rules.{levels}
use Rattle.b3d_spec.specs.Scene.{Scene}
use Rattle.b3d_spec.specs.Tables.{width, start, rows, tables, node_tables}
use Rattle.b3d_spec.proofs.WellFormedLaws.{WellFormed, slots-few}
use Rattle.b3d_spec.proofs.Rows.RebuildLaws.{Agree, rebuild-fine, held_rows}
use Rattle.b3d_check_table_lengths.specs.LentRooms.{part_counts, Rooms}
use Rattle.b3d_check.specs.Lent.{lent_of}
use Rattle.b3d_write_row_size.specs.RowSize.{Sizable}
use Rattle.b3d_write_size.specs.LentSize.{NodesSizable, lent_size, file_bytes}
use Rattle.b3d_write_size.proofs.SizeLaws.{lent-size, nodes_sizable}

module _ (mode : Mode) (v slots : ℕ) (counts t₁ t₂ t₃ t₄ t₅ t₆ t₇ t₈ t₉ t₁₀ ns : List ℕ) where
  abbrev L : Lent
  L = lent_of v slots counts t₁ t₂ t₃ t₄ t₅ t₆ t₇ t₈ t₉ t₁₀

  -- ---- what sound tables have

  module _ (t : Scene) (e : rebuild mode L ns ≡ some t) where
    pub fit : WellFormed t
    fit = (rebuild-fine mode ns L t e).0

    pub agree : Agree ns L t
    agree = (rebuild-fine mode ns L t e).1

    pub sound-rooms : Rooms (get_or counts 0 0) (get_or counts 1 0) (part_counts counts) (length t₁) (length t₂) (length t₃) (length t₄) (length t₅) (length t₆) (length t₇) (length t₈) (length t₉) (length t₁₀)
    unfolding lent_of tables node_tables width part_counts if
    sound-rooms =
        let h₃ = agree.held.1.1 in
        let h₆ = h₃.1.1.1 in
        let h₉ = h₆.1.1.1 in
        record {
          few₁ = agree.held.0.few;
          few₂ = agree.held.1.0.few;
          limited = record { nodes = h₃.0.few; meshes = h₃.1.0.few; vertices = h₃.1.1.0.few; sets = h₆.0.few; triangles = h₆.1.0.few; weights = h₆.1.1.0.few; lists = h₉.0.few; keys = h₉.1.0.few };
          room₁ = agree.held.0.room;
          room₂ = agree.held.1.0.room;
          room₃ = h₃.0.room;
          kinds = record { room₄ = h₃.1.0.room; room₅ = h₃.1.1.0.room; room₆ = h₆.0.room; room₇ = h₆.1.0.room; room₈ = h₆.1.1.0.room };
          lists = record { room₉ = h₉.0.room; room₁₀ = h₉.1.0.room };
        }

    pub sound-slots : slots ≤ 8
    unfolding lent_of
    sound-slots = let q = slots-few t.slots t.brushes fit.slots in omega (arith, agree.slots)

    -- the rows of table k are those of the scene
    pub sound-rows : All (λ k. lent_rows L k ≡ rows k t) tables
    sound-rows = held_rows L t fit agree.held

    sizable_4 : All (Sizable 4) (cut 9 (get_or counts 3 0) t₄)
    unfolding lent_rows lent_of tables node_tables rows width if
    sizable_4 = subst (All (Sizable 4)) (sym sound-rows.1.1.1.0) (nodes_sizable levels (length t.brushes) none t.nodes NONE start fit.nodes).0

    sizable_9 : All (Sizable 9) (cut 4 (get_or counts 8 0) t₉)
    unfolding lent_rows lent_of tables node_tables rows width if
    sizable_9 = subst (All (Sizable 9)) (sym sound-rows.1.1.1.1.1.1.1.1.0) (nodes_sizable levels (length t.brushes) none t.nodes NONE start fit.nodes).1

    pub sound_sizable : NodesSizable (part_counts counts) t₃ t₄ t₉
    unfolding part_counts
    sound_sizable =
        let r = sound-rooms in
        let l = r.limited in
        record {
          limited = r.limited;
          room₃ = r.room₃;
          room₄ = r.kinds.room₄;
          room₉ = r.lists.room₉;
          sizable₄ = sizable_4;
          sizable₉ = sizable_9;
        }

    pub sound-bytes : file_bytes slots (get_or counts 0 0) (get_or counts 1 0) (part_counts counts) t₁ t₂ t₃ t₄ t₉ ≡ length (encode t)
    unfolding file_bytes lent_size part_counts lent_rows lent_of width if
    sound-bytes = lent-size mode L ns t e
