-- `put_open` is the record's words, and nothing else of the row.
use Rattle.b3d_pieces_words_row.proofs.RecordLaws.{put_is}
use native.Mathlib.Omega.{arith}
use lib.ListN.{length-set}
use borrow.Author.Rules.{rules}
use Rattle.b3d_pieces_words_row.proofs.put_open.Goals as goal

pub bounds-row-p-2 : goal.bounds-row-p-2
bounds-row-p-2 c = simp length-set (omega arith)

pub bounds-row-p-3 : goal.bounds-row-p-3
bounds-row-p-3 c = simp length-set (omega arith)

pub bounds-row-p-4 : goal.bounds-row-p-4
bounds-row-p-4 c = simp length-set (omega arith)

pub bounds-row-p-5 : goal.bounds-row-p-5
bounds-row-p-5 c = simp length-set (omega arith)

pub bounds-row-p-6 : goal.bounds-row-p-6
bounds-row-p-6 c = simp length-set (omega arith)

pub bounds-row-p-7 : goal.bounds-row-p-7
bounds-row-p-7 c = simp length-set (omega arith)

pub bounds-row-p-8 : goal.bounds-row-p-8
bounds-row-p-8 c = simp length-set (omega arith)

pub bounds-row-p-9 : goal.bounds-row-p-9
bounds-row-p-9 c = simp length-set (omega arith)

pub bounds-row-p-10 : goal.bounds-row-p-10
bounds-row-p-10 c = simp length-set (omega arith)

pub bounds-row-p-11 : goal.bounds-row-p-11
bounds-row-p-11 c = simp length-set (omega arith)

pub shape_of-row : goal.shape_of-row
shape_of-row c = simp length-set

pub returns : goal.returns
returns c = search (put_is, rules)
