-- A law for each way through `judge_answer` and `answer_for`.
use Rattle.std.specs.Prelude.{Ok, Err}
use Rattle.std.specs.Prelude as std
use Rattle.layout.specs.declared.Refusal.{Refusal}
use Rattle.b3d_judge.proofs.VerdictLaws.{Good, was-bad, was-good}
use mathlib.Core.Path.{◌≡◌, refl, ap, sym, ◌∙◌}
use Prim.Native.Nat.{ℕ, ◌*◌, ◌<◌, ◌≤◌}
use native.Mathlib.Omega.{arith}
use mathlib.Core.List.{List}
use lib.ListN.{length}
use lib.Seq.{sets}
use lib.Dec.{leb, eqb, eqb→eq}
use mir.Facts.{eqb_no}
use borrow.Author.Tests.{eq-eqb, ne_eqb}
use Rattle.wire.specs.Test.{if}
use Rattle.layout.proofs.ResultLaws.{by_test}
use Rattle.layout.specs.Result.{accept, reject, ◌>>=◌}
use Rattle.layout.specs.Lists.{All}
use Rattle.b3d_spec.specs.declared.Answer.{Answer}
use Rattle.b3d_spec.specs.declared.Mode.{Mode}
use Rattle.b3d_spec.specs.Answers.{judge, read, answer, read_answer}
use Rattle.b3d_spec.specs.Rules.{row_limit}
use Rattle.b3d_spec.specs.Scene.{Scene}
use Rattle.b3d_spec.specs.Tables.{width, rows, tables, node_tables, counts}
use Rattle.b3d_spec.proofs.RefusalLaws.{judge-place}
use Rattle.b3d_spec.proofs.Rows.TableNumberLaws.{each-table}
use Rattle.b3d_spec.proofs.AnswerLaws.{judge_got, judge-first}
use Rattle.b3d_judge_tally.specs.Tally.{tally_of}
use Rattle.b3d_judge.specs.Answers.{verdict_of}
use Rattle.b3d_judge_file_body.specs.declared.Summary.{Summary}
use Rattle.shared_room.specs.Rooms.{number_of, first_short}
use Rattle.shared_room.proofs.RoomLaws.{each-short, each_room}
use Rattle.b3d_judge_limits.specs.Rooms.{counts_in}
use Rattle.b3d_judge_limits.specs.Limits.{TallyLimited}
use Rattle.b3d_read_answer_numbers.specs.Answers.{accepted_as, room_answer}
use Rattle.layout.proofs.AllLaws.{All}
use Rattle.layout.specs.Rows.{each_of}

-- the counts of the tally are those of the scene
short-is : (t : Scene) (room : ℕ → ℕ) → first_short width (number_of (counts_in (tally_of t))) room tables ≡ first_short width (λ k. length (rows k t)) room tables
unfolding first_short counts_in tables node_tables
short-is t room = refl

-- each of them within the limit
limited : (t : Scene) → All (λ k. length (rows k t) ≤ row_limit) tables → TallyLimited (tally_of t)
unfolding tables node_tables
limited t h =
    record {
      textures = h.0;
      brushes = h.1.0;
      nodes = h.1.1.0;
      meshes = h.1.1.1.0;
      vertices = h.1.1.1.1.0;
      sets = h.1.1.1.1.1.0;
      triangles = h.1.1.1.1.1.1.0;
      weights = h.1.1.1.1.1.1.1.0;
      lists = h.1.1.1.1.1.1.1.1.0;
      keys = h.1.1.1.1.1.1.1.1.1.0;
    }

accepted-is : (t : Scene) → accepted_as t.version t.slots (tally_of t) ≡ answer (accept t)
unfolding accepted_as answer counts_in counts tables node_tables
accepted-is t = refl

module _ (mode : Mode) (s : List ℕ) (v : std.Result Summary Refusal) (ev : v ≡ verdict_of (judge mode s)) where
  module _ (e : Refusal) (w : v ≡ Err e) where
    bad-is : judge mode s ≡ reject e.number e.place
    bad-is = was-bad (judge mode s) e (sym ev ∙ w)

    pub place-fits : e.place < 4294967296
    place-fits = let h = judge-place mode s e.number e.place bad-is in omega arith

    pub judge-bad : (y : Answer) → y ≡ answer (reject e.number e.place) → y ≡ answer (judge mode s)
    judge-bad y h = h ∙ ap answer (sym bad-is)

    pub answer-bad : (room : ℕ → ℕ) (y : Answer) → y ≡ answer (reject e.number e.place) → y ≡ read_answer mode room s
    unfolding read_answer
    answer-bad room y h = h ∙ ap answer (sym (judge-first mode s e.number e.place bad-is room))

  module _ (x : Summary) (w : v ≡ Ok x) where
    good : Good (judge mode s) x
    good = was-good (judge mode s) x (sym ev ∙ w)

    pub good-limited : TallyLimited x.tally
    good-limited = rw good.same (limited good.scene (judge_got mode s good.scene good.is).1)

    -- what is answered with ample tables
    accepted-as : accepted_as x.version x.n_texs x.tally ≡ answer (accept good.scene)
    accepted-as = ap (λ (y : Summary). accepted_as y.version y.n_texs y.tally) good.same ∙ accepted-is good.scene

    pub judge-good : (y : Answer) → y ≡ accepted_as x.version x.n_texs x.tally → y ≡ answer (judge mode s)
    judge-good y h = h ∙ accepted-as ∙ ap answer (sym good.is)

    module _ (room : ℕ → ℕ) where
      abbrev count : ℕ → ℕ
      count k = length (rows k good.scene)

      -- the first table that is too short
      abbrev short : ℕ
      short = first_short width count room tables

      short-count : first_short width (number_of (counts_in x.tally)) room tables ≡ short
      short-count = ap (λ (y : Summary). first_short width (number_of (counts_in y.tally)) room tables) good.same ∙ short-is good.scene room

      opened : read mode room s ≡ (each_of 11 (λ k. leb (width k * count k) (room k)) tables >>= λ _. accept good.scene)
      unfolding read
      opened = rw good.is

      -- the two ways of it
      has_counted_rows : answer (read mode room s) ≡ if (eqb short 0) (answer (accept good.scene)) (answer (reject 11 short))
      unfolding if
      has_counted_rows =
          by_test (eqb short 0)
          (λ t. let z = eqb→eq short 0 t in rw (opened, each_room width count room 11 tables (each-table (λ k. 0 < k) (λ k a b. a)) z, eq-eqb short 0 z))
          (λ f. let d = eqb_no {a = short} {b = 0} f in rw (opened, each-short width count room 11 tables d, ne_eqb short 0 d))

      pub answer-good : (y : Answer) → y ≡ room_answer x.version x.n_texs x.tally room → y ≡ read_answer mode room s
      unfolding read_answer room_answer
      answer-good y h = h ∙ rw (short-count, accepted-as) (sym has_counted_rows)

pub ruleset judge_laws = (place-fits, judge-bad, good-limited, judge-good)

pub ruleset answer_laws = (place-fits, answer-bad, good-limited, answer-good)
