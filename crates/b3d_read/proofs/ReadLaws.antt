-- A law for each way through `read`.
use mathlib.Core.Path.{◌≡◌, refl, ap, sym, ◌∙◌}
use Prim.Native.Nat.{ℕ, ◌-◌, ◌*◌, ◌<◌, ◌≤◌}
use native.Mathlib.Omega.{arith}
use mathlib.Core.List.{List, [], ◌∷◌}
use lib.ListN.{length, get_or}
use lib.Seq.{sets}
use lib.Dec.{leb, leb→le}
use mir.Facts.{and_yes}
use Rattle.wire.specs.Bytes.{AllBytes}
use Rattle.layout.specs.Result.{Result, accept, reject}
use Rattle.layout.specs.Lists.{All}
use Rattle.layout.proofs.AllLaws.{all-zip}
use Rattle.layout.proofs.ResultLaws.{by-check}
use Rattle.layout.specs.Rows.{each_of, size_fits, joined}
use Rattle.b3d_spec.specs.declared.Answer.{Answer}
use Rattle.b3d_spec.specs.declared.Mode.{Mode}
use Rattle.b3d_spec.specs.declared.Mode.TheVariants.{Lenient}
use Rattle.b3d_spec.specs.Answers.{judge, read, answer, read_answer, read_table, table_after}
use Rattle.b3d_spec.specs.Parse.{parse}
use Rattle.b3d_spec.specs.Scene.{Scene}
use Rattle.b3d_spec.specs.Tables.{width, rows, table, tables, node_tables, counts}
use Rattle.b3d_spec.proofs.RefusalLaws.{read_number}
use Rattle.b3d_spec.proofs.Rows.TableNumberLaws.{table-each, ten-tables}
use Rattle.b3d_spec.proofs.AnswerLaws.{judge_got, judge_lenient, read_got}
use Rattle.b3d_spec.proofs.Files.FileLaws.{parse-fine}
use Rattle.b3d_spec.proofs.Rows.CountLaws.{table_length}
use Rattle.b3d_spec_plain_rows.specs.Rows.{file_rows}
use Rattle.b3d_spec_plain_rows.proofs.Laws.{rows_law}
use Rattle.b3d_read_tables.specs.Fills.{Fillable, Filled}
use Rattle.shared_room.specs.Rooms.{number_of}
use Rattle.b3d_read.specs.Reads.{table_in, room_in, Reads}
use Rattle.b3d_judge_limits.proofs.RoomLaws.{stored-over}

-- the number says whether a file is accepted, for no refusal has the number 0
record Accepted (mode : Mode) (room : ℕ → ℕ) (s : List ℕ) : Type 0 where
  scene : Scene
  is : read mode room s ≡ accept scene

accepts : (mode : Mode) (room : ℕ → ℕ) (s : List ℕ) → (read_answer mode room s).number ≡ 0 → Accepted mode room s
unfolding read_answer answer
accepts mode room s = go (read mode room s) refl
  where
    go : (o : Result Scene) → read mode room s ≡ o → (answer o).number ≡ 0 → Accepted mode room s
    go (accept t) e z = record { scene = t; is = e }
    go (reject n p) e z = absurd (omega (arith, read_number mode room s n p e))

count_at : (t : Scene) (k : ℕ) → 1 ≤ k → k ≤ 10 → get_or (counts t) (k - 1) 0 ≡ length (rows k t)
unfolding counts tables node_tables
count_at t =
    table-each (λ (k : ℕ). get_or (counts t) (k - 1) 0 ≡ length (rows k t)) (ten-tables (λ (k : ℕ). get_or (counts t) (k - 1) 0 ≡ length (rows k t)) refl refl refl refl refl refl refl refl refl refl)

-- where it is refused, a table stays
stays : (mode : Mode) (room : ℕ → ℕ) (s : List ℕ) (k : ℕ) (xs : List ℕ) → ((read_answer mode room s).number ≡ 0 → ⊥) → xs ≡ read_table mode k room s xs
unfolding read_answer read_table answer table_after
stays mode room s k xs = go (read mode room s)
  where
    go : (o : Result Scene) → ((answer o).number ≡ 0 → ⊥) → xs ≡ table_after k o xs
    go (accept t) d = absurd (d refl)
    go (reject n p) d = refl

-- an accepted file is short
few_bytes : (s : List ℕ) (t : Scene) → parse Lenient s ≡ accept t → length s < 4294967296
unfolding parse
few_bytes s t e = by-check (size_fits (length s)) 1 0 _ e (λ z _. let (lo, hi) = and_yes (leb 12 (length s)) (leb (length s) 16777216) z in omega (arith, leb→le (length s) 16777216 hi))

-- where `read` accepts, each table has room
fits : (mode : Mode) (s : List ℕ) (room : ℕ → ℕ) (t : Scene) → AllBytes s → read mode room s ≡ accept t → All (λ k. length (table k t) ≤ room k) tables
fits mode s room t b e =
    let g = read_got mode room s t e in
    let j = judge_lenient mode s t g.0 in
    all-zip (λ k. length (table k t) ≡ width k * length (rows k t)) (λ k. width k * length (rows k t) ≤ room k) _
    (λ k l r. omega (arith, l, r))
    tables (table_length t (parse-fine s t b (judge_got Lenient s t j).0).0) g.1

module _ (mode : Mode) (s : List ℕ) (t1 t2 t3 t4 t5 t6 t7 t8 t9 t10 : List ℕ) (y : Answer)
    (ey : y ≡ read_answer mode (number_of (length t1 ∷ length t2 ∷ length t3 ∷ length t4 ∷ length t5 ∷ length t6 ∷ length t7 ∷ length t8 ∷ length t9 ∷ length t10 ∷ [])) s) where
  abbrev lent : List (List ℕ)
  lent = t1 ∷ t2 ∷ t3 ∷ t4 ∷ t5 ∷ t6 ∷ t7 ∷ t8 ∷ t9 ∷ t10 ∷ []

  answer-is : y ≡ read_answer mode (room_in lent) s
  unfolding read_answer read each_of tables node_tables
  answer-is = ey

  pub read-refused : (y.number ≡ 0 → ⊥) → Reads mode s lent lent y
  read-refused d = record { answer = answer-is; table = λ k a b. stays mode (room_in lent) s k (table_in lent k) (λ z. d (ap (λ (a : Answer). a.number) answer-is ∙ z)) }

  module _ (z : y.number ≡ 0) where
    accepted : Accepted mode (room_in lent) s
    accepted = accepts mode (room_in lent) s (sym (ap (λ (a : Answer). a.number) answer-is) ∙ z)

    judged : judge Lenient s ≡ accept accepted.scene
    judged = judge_lenient mode s accepted.scene (read_got mode (room_in lent) s accepted.scene accepted.is).0

    -- the rows of its bytes are those of what was read
    table_is : (k : ℕ) → 1 ≤ k → k ≤ 10 → joined (file_rows k s) ≡ table k accepted.scene
    unfolding table
    table_is k a b = ap joined (rows_law s accepted.scene judged k a b)

    -- the answer has the counts of what was read
    counts_are : y.counts ≡ counts accepted.scene
    unfolding read_answer answer
    counts_are = ap (λ (a : Answer). a.counts) answer-is ∙ ap (λ (o : Result Scene). (answer o).counts) accepted.is

    module _ (b : AllBytes s) where
      rooms : (k : ℕ) → 1 ≤ k → k ≤ 10 → length (table k accepted.scene) ≤ room_in lent k
      rooms = table-each (λ (k : ℕ). length (table k accepted.scene) ≤ room_in lent k) (fits mode s (room_in lent) accepted.scene b accepted.is)

      pub read_fillable : Fillable s y.counts (length t1 ∷ length t2 ∷ length t3 ∷ length t4 ∷ length t5 ∷ length t6 ∷ length t7 ∷ length t8 ∷ length t9 ∷ length t10 ∷ [])
      unfolding tables node_tables
      read_fillable = record {
        small = few_bytes s accepted.scene (judge_got Lenient s accepted.scene judged).0;
        rows = λ k lo hi.
            ap (λ (c : List ℕ). get_or c (k - 1) 0) counts_are ∙ count_at accepted.scene k lo hi ∙ ap length (sym (rows_law s accepted.scene judged k lo hi));
        room = λ k lo hi.
            rw (table_is k lo hi)
            (table-each (λ (j : ℕ). length (table j accepted.scene) ≤ get_or (length t1 ∷ length t2 ∷ length t3 ∷ length t4 ∷ length t5 ∷ length t6 ∷ length t7 ∷ length t8 ∷ length t9 ∷ length t10 ∷ []) (j - 1) 0)
            (fits mode s (room_in lent) accepted.scene b accepted.is) k lo hi);
      }

      pub read-filled : (after : List (List ℕ)) → Filled s lent after → Reads mode s lent after y
      unfolding read_table table_after
      read-filled after f = record {
        answer = answer-is;
        table = λ k lo hi.
            f.table k lo hi ∙ ap (sets (table_in lent k) 0) (table_is k lo hi) ∙ stored-over (table k accepted.scene) (table_in lent k) (rooms k lo hi)
            ∙ sym (ap (λ (o : Result Scene). table_after k o (table_in lent k)) accepted.is);
      }

pub ruleset read_laws = (read-refused, read_fillable, read-filled)
