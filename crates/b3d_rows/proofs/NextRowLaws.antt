-- The next row by the table: a law for each need.
use Rattle.std.specs.Prelude.{Some, None}
use Rattle.std.specs.Prelude as std
use mathlib.Core.Path.{◌≡◌, refl, ap, sym, subst, ◌∙◌}
use Prim.Native.Nat.{ℕ, ◌+◌, ◌<◌, ◌≤◌}
use native.Mathlib.Omega.{arith}
use mathlib.Core.Bool.{Bool, true, false, not, ◌||◌}
use mathlib.Core.List.{List}
use lib.ListN.{length}
use lib.Dec.{T, eqb, leb}
use borrow.Author.Tests.{eq-eqb, ne_eqb, le-leb, lt-leb}
use Rattle.wire.specs.Test.{if}
use Rattle.b3d_rows_open_items.specs.ItemsLeft.{ItemTable}
use Rattle.b3d_rows_positions.specs.Positions.{items_ahead, ItemPosition, Comes, NoRow}
use Rattle.b3d_rows_positions.specs.declared.Position.{Position}
use Rattle.b3d_rows_items.specs.NextItem.{ItemNexts}
use Rattle.b3d_rows_chunks.specs.NextChunk.{chunks_ahead, ChunkPosition, ChunkNexts, sets_ahead, SetPosition, SetNexts}
use Rattle.b3d_rows_items.specs.NextText.{texts_ahead, TextPosition, TextNexts}
use Rattle.b3d_rows_nodes.specs.NextNode.{nodes_ahead, NodePosition, NodeNextIs, NodeNexts}
use Rattle.b3d_rows_nodes.specs.declared.RowCursor.{RowCursor}
use Rattle.b3d_rows_nodes.specs.declared.NextCursor.{NextCursor}
use Rattle.b3d_rows.specs.NextRow.{parts_from, rows_from, behind_row, PartAt, RowCursorAt, PartNexts, RowNext, RowNextIs, RowNexts}

-- ---- tables from 4 on

pub not-items : (j : ℕ) → T (not (eqb j 5 || (eqb j 7 || (eqb j 8 || eqb j 10)))) → (k : ℕ) → k ≡ j → ItemTable k → ⊥
not-items j h k e t = go (eqb j 5 || (eqb j 7 || (eqb j 8 || eqb j 10))) h (subst (λ (i : ℕ). T (eqb i 5 || (eqb i 7 || (eqb i 8 || eqb i 10)))) e t.is)
  where
    go : (b : Bool) → T (not b) → T b → ⊥
    go true a b = a
    go false a b = b

pub differs : (k j : ℕ) → T (not (eqb k j)) → k ≡ j → ⊥
differs k j h e = subst (λ (b : Bool). T (not b)) (eq-eqb k j e) h

above : (k j : ℕ) → j ≤ k → (k ≡ j → ⊥) → j + 1 ≤ k
above k j h n = omega arith

beyond : (k : ℕ) → k ≤ 10 → 11 ≤ k → ⊥
beyond k h g = omega arith

pub item-table : (k : ℕ) → 4 ≤ k → k ≤ 10 → (k ≡ 4 → ⊥) → (k ≡ 6 → ⊥) → (k ≡ 9 → ⊥) → ItemTable k
item-table k lo hi n4 n6 n9 = record { is = go (eqb k 5) (eqb k 7) (eqb k 8) (eqb k 10) (differs k 5) (differs k 7) (differs k 8) (differs k 10) }
  where
    go : (a b c d : Bool) → (T (not a) → k ≡ 5 → ⊥) → (T (not b) → k ≡ 7 → ⊥) → (T (not c) → k ≡ 8 → ⊥) → (T (not d) → k ≡ 10 → ⊥) → T (a || (b || (c || d)))
    go true b c d n5 n7 n8 n10 = tt
    go false true c d n5 n7 n8 n10 = tt
    go false false true d n5 n7 n8 n10 = tt
    go false false false true n5 n7 n8 n10 = tt
    go false false false false n5 n7 n8 n10 =
        absurd (beyond k hi (above k 10 (above k 9 (above k 8 (above k 7 (above k 6 (above k 5 (above k 4 lo n4) (n5 tt)) n6) (n7 tt)) (n8 tt)) n9) (n10 tt)))

module _ (k : ℕ) (s : List ℕ) (x : Position) where
  pub from_four : k ≡ 4 → parts_from k s x ≡ chunks_ahead 4 s x
  unfolding parts_from if
  from_four e = rw e

  pub from_six : k ≡ 6 → parts_from k s x ≡ sets_ahead s x
  unfolding parts_from if
  from_six e = rw e

  pub from_nine : k ≡ 9 → parts_from k s x ≡ chunks_ahead 9 s x
  unfolding parts_from if
  from_nine e = rw e

  pub from-items : (k ≡ 4 → ⊥) → (k ≡ 6 → ⊥) → (k ≡ 9 → ⊥) → parts_from k s x ≡ items_ahead k s x
  unfolding parts_from if
  from-items n4 n6 n9 = rw (ne_eqb k 4 n4, ne_eqb k 6 n6, ne_eqb k 9 n9)

comes-as : (k : ℕ) (a b c d : List (List ℕ)) (row put : List ℕ) → a ≡ b → c ≡ d → Comes k b d row put → Comes k a c row put
comes-as k a b c d row put e f h = rw (e, f) h

none-as : (a b : List (List ℕ)) (row put : List ℕ) → a ≡ b → NoRow b row put → NoRow a row put
none-as a b row put e n = record { none = e ∙ n.none; same = n.same }

module _ (k : ℕ) (s : List ℕ) (x : Position) (v : PartAt k s x) where
  module _ (e : k ≡ 4) where
    pub four-at : ChunkPosition s x
    four-at = v.meshes e

    pub four-next : (row put : List ℕ) (r : std.Option Position) → ChunkNexts 4 s x row put r → PartNexts k s x row put r
    four-next row put None n = record { is = none-as _ _ row put (from_four k s x e) n.is }
    four-next row put (Some y) n =
        record {
          is = record {
            comes = comes-as k _ _ _ _ row put (from_four k s x e) (from_four k s y e) (rw e n.is.comes);
            at = record { meshes = λ q. n.is.position; sets = λ q. absurd (omega arith); lists = λ q. absurd (omega arith); items = λ t. absurd (not-items 4 tt k e t) };
          };
        }

  module _ (d : k ≡ 4 → ⊥) (e : k ≡ 6) where
    pub six_at : SetPosition s x
    six_at = v.sets e

    pub six_next : (row put : List ℕ) (r : std.Option Position) → SetNexts s x row put r → PartNexts k s x row put r
    six_next row put None n = record { is = none-as _ _ row put (from_six k s x e) n.is }
    six_next row put (Some y) n =
        record {
          is = record {
            comes = comes-as k _ _ _ _ row put (from_six k s x e) (from_six k s y e) (rw e n.is.comes);
            at = record { meshes = λ q. absurd (omega arith); sets = λ q. n.is.position; lists = λ q. absurd (omega arith); items = λ t. absurd (not-items 6 tt k e t) };
          };
        }

  module _ (d : k ≡ 4 → ⊥) (d₆ : k ≡ 6 → ⊥) (e : k ≡ 9) where
    pub nine_at : ChunkPosition s x
    nine_at = v.lists e

    pub nine_next : (row put : List ℕ) (r : std.Option Position) → ChunkNexts 9 s x row put r → PartNexts k s x row put r
    nine_next row put None n = record { is = none-as _ _ row put (from_nine k s x e) n.is }
    nine_next row put (Some y) n =
        record {
          is = record {
            comes = comes-as k _ _ _ _ row put (from_nine k s x e) (from_nine k s y e) (rw e n.is.comes);
            at = record { meshes = λ q. absurd (omega arith); sets = λ q. absurd (omega arith); lists = λ q. n.is.position; items = λ t. absurd (not-items 9 tt k e t) };
          };
        }

  module _ (lo : 4 ≤ k) (hi : k ≤ 10) (d₄ : k ≡ 4 → ⊥) (d₆ : k ≡ 6 → ⊥) (d₉ : k ≡ 9 → ⊥) where
    pub item-is : ItemTable k
    item-is = item-table k lo hi d₄ d₆ d₉

    pub item-at : ItemPosition k s x
    item-at = v.items item-is

    pub item-next : (row put : List ℕ) (r : std.Option Position) → ItemNexts k s x row put r → PartNexts k s x row put r
    item-next row put None n = record { is = none-as _ _ row put (from-items k s x d₄ d₆ d₉) n.is }
    item-next row put (Some y) n =
        record {
          is = record {
            comes = comes-as k _ _ _ _ row put (from-items k s x d₄ d₆ d₉) (from-items k s y d₄ d₆ d₉) n.is.comes;
            at = record { meshes = λ q. absurd (d₄ q); sets = λ q. absurd (d₆ q); lists = λ q. absurd (d₉ q); items = λ t. n.is.position };
          };
        }

pub ruleset part_laws = (four-at, four-next, six_at, six_next, nine_at, nine_next, item-is, item-at, item-next)

-- ---- any table

module _ (k : ℕ) (s : List ℕ) (x : RowCursor) where
  pub from-texts : k ≤ 2 → rows_from k s x ≡ texts_ahead s x.position
  unfolding rows_from if
  from-texts h = rw (le-leb k 2 h)

  pub from-nodes : k ≡ 3 → rows_from k s x ≡ nodes_ahead s x.position x.path
  unfolding rows_from if
  from-nodes e = rw e

  pub from_parts : 2 < k → (k ≡ 3 → ⊥) → rows_from k s x ≡ parts_from k s x.position
  unfolding rows_from if
  from_parts h n = rw (lt-leb k 2 h, ne_eqb k 3 n)

module _ (k : ℕ) (s : List ℕ) (x : RowCursor) (v : RowCursorAt k s x) where
  abbrev after : Position → RowCursor
  after y = record { position = y; path = x.path }

  module _ (le : k ≤ 2) where
    pub text_at : TextPosition k s x.position
    text_at = v.texts le

    text_case : (row put : List ℕ) (r : std.Option Position) → TextNexts k s x.position row put r → RowNexts k s x row put (behind_row x r)
    text_case row put None n = record { is = record { ended = none-as _ _ row put (from-texts k s x le) n.is; still = refl } }
    text_case row put (Some y) n =
        record {
          is = record {
            comes = comes-as k _ _ _ _ row put (from-texts k s x le) (from-texts k s (after y) le) n.is.comes;
            at = record { texts = λ q. n.is.position; nodes = λ q. absurd (omega arith); parts = λ q. absurd (omega arith) };
          };
        }

    pub text-next : (row put : List ℕ) (r : std.Option Position) → TextNexts k s x.position row put r → (a : NextCursor) → a ≡ behind_row x r → RowNexts k s x row put a
    text-next row put r n a ea = subst (RowNexts k s x row put) (sym ea) (text_case row put r n)

  module _ (gt : 2 < k) where
    module _ (e : k ≡ 3) where
      pub node_at : NodePosition s x.position x.path
      node_at = v.nodes e

      node_case : (row put : List ℕ) (b : Bool) (y : RowCursor) → NodeNextIs s x.position x.path row put b y → RowNextIs k s x row put b y
      node_case row put false y n = record { ended = none-as _ _ row put (from-nodes k s x e) n.ended; still = n.still }
      node_case row put true y n =
          record {
            comes = comes-as k _ _ _ _ row put (from-nodes k s x e) (from-nodes k s y e) (rw e n.comes);
            at = record { texts = λ q. absurd (omega arith); nodes = λ q. n.position; parts = λ q. absurd (omega arith) };
          }

      pub node-next : (row put : List ℕ) (r : NextCursor) → NodeNexts s x.position x.path row put r → RowNexts k s x row put r
      node-next row put r n = record { is = node_case row put r.given r.cursor n.is }

    module _ (d : k ≡ 3 → ⊥) where
      pub part_low : 4 ≤ k
      part_low = omega arith

      pub part_at : PartAt k s x.position
      part_at = v.parts part_low

      part_case : (row put : List ℕ) (r : std.Option Position) → PartNexts k s x.position row put r → RowNexts k s x row put (behind_row x r)
      part_case row put None n = record { is = record { ended = none-as _ _ row put (from_parts k s x gt d) n.is; still = refl } }
      part_case row put (Some y) n =
          record {
            is = record {
              comes = comes-as k _ _ _ _ row put (from_parts k s x gt d) (from_parts k s (after y) gt d) n.is.comes;
              at = record { texts = λ q. absurd (omega arith); nodes = λ q. absurd (d q); parts = λ q. n.is.at };
            };
          }

      pub part-next : (row put : List ℕ) (r : std.Option Position) → PartNexts k s x.position row put r → (a : NextCursor) → a ≡ behind_row x r → RowNexts k s x row put a
      part-next row put r n a ea = subst (RowNexts k s x row put) (sym ea) (part_case row put r n)

pub ruleset row_laws = (text_at, text-next, node_at, node-next, part_low, part_at, part-next)

-- ---- the position behind a row

pub behind-none : (x : RowCursor) (n : std.Option Position) → n ≡ None → (a : NextCursor) → a ≡ record { given = false; cursor = x } → a ≡ behind_row x n
behind-none x n w a e = e ∙ sym (ap (behind_row x) w)

pub behind-at : (x : RowCursor) (n : std.Option Position) (y : Position) → n ≡ Some y → (a : NextCursor) → a ≡ record { given = true; cursor = record { position = y; path = x.path } } → a ≡ behind_row x n
behind-at x n y w a e = e ∙ sym (ap (behind_row x) w)

pub ruleset behind_laws = (behind-none, behind-at)

-- ---- where a row is to come

pub row-given : (k : ℕ) (s : List ℕ) (x : RowCursor) → 0 < length (rows_from k s x) → (row put : List ℕ) (r : NextCursor) → RowNexts k s x row put r → (y : RowCursor) → y ≡ r.cursor → RowNext k s x row put y
row-given k s x h row put r n y ey = subst (RowNext k s x row put) (sym ey) (go r.given r.cursor n.is)
  where
    go : (b : Bool) (z : RowCursor) → RowNextIs k s x row put b z → RowNext k s x row put z
    go true z m = m
    go false z m = absurd (omega (arith, ap length m.ended.none))
