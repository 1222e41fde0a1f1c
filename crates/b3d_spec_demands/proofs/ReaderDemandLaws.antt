-- Demands 1 and 2 on the reader hold.
use mathlib.Core.Path.{◌≡◌}
use Prim.Native.Nat.{ℕ, ◌*◌, ◌≤◌}
use mathlib.Core.List.{List}
use lib.ListN.{length}
use Rattle.layout.specs.Result.{accept, reject}
use Rattle.b3d_spec.specs.declared.Mode.{Mode}
use Rattle.b3d_spec.specs.Answers.{judge, read, answer, table_after, read_answer, read_table}
use Rattle.b3d_spec.specs.Rules.{row_limit}
use Rattle.b3d_spec.specs.Scene.{Scene}
use Rattle.b3d_spec.specs.Parse.{parse}
use Rattle.b3d_spec.specs.Tables.{width, rows}
use Rattle.b3d_spec.proofs.AnswerLaws.{judge_got, judge-yes, judge-first, read_got, read-yes}
use Rattle.b3d_spec_demands.specs.Demands.{Lowest, Reading}
use Rattle.b3d_spec_demands.proofs.LowestTableLaws.{is-lowest, names_at}

too_many : (mode : Mode) (s : List ℕ) (t : Scene) → parse mode s ≡ accept t → (p : ℕ) → Lowest (λ k. length (rows k t) ≤ row_limit) p → judge mode s ≡ reject 10 p
unfolding judge
too_many mode s t e p h = rw (e, is-lowest 10 (λ k. length (rows k t)) (λ k. row_limit) p h)

too_short : (mode : Mode) (room : ℕ → ℕ) (s : List ℕ) (t : Scene) → judge mode s ≡ accept t → (p : ℕ) → Lowest (λ k. width k * length (rows k t) ≤ room k) p → read mode room s ≡ reject 11 p
unfolding read
too_short mode room s t e p h = rw (e, is-lowest 11 (λ k. width k * length (rows k t)) room p h)

pub demand_1 : (mode : Mode) (room : ℕ → ℕ) (s : List ℕ) → Reading mode room s
unfolding read_table table_after read_answer answer
demand_1 mode room s = record {
  keeps = λ t e. (judge_got mode s t (read_got mode room s t e).0).0;
  few = λ t e. (judge_got mode s t (read_got mode room s t e).0).1;
  fits = λ t e. (read_got mode room s t e).1;
  accepted = λ t e few fits. read-yes mode room s t (judge-yes mode s t e few) fits;
  holds = λ t e k xs. rw e;
  says = λ t e. rw e;
  names = λ b t e. names_at mode s t b (judge_got mode s t (read_got mode room s t e).0).0;
  untouched = λ n p e k xs. rw e;
  refuses = λ n p e. rw e;
  first = λ n p e. judge-first mode s n p e room;
  limit = λ t e p h. judge-first mode s 10 p (too_many mode s t e p h) room;
  short = too_short mode room s;
}
