-- `put_three` puts or counts three numbers.
use Rattle.b3d_mend_write_file.proofs.FileLaws.{three_laws, three_c, three-done}
use borrow.Author.Rules.{rules}
use Rattle.b3d_mend_write_file.proofs.put_three.Goals as goal

pub put_word-m-requires : goal.put_word-m-requires
put_word-m-requires c = search (three_laws, rules)

pub put_word-n-requires : goal.put_word-n-requires
put_word-n-requires c = search (three_laws, rules)

pub put_word-requires : goal.put_word-requires
put_word-requires c = let second = c in
    let first = second in
    let start = first in
    three_c start.args.a start.args.b start.args.c _ _ _ start.requires _ _ first.put_word-m.ensures _ _ second.put_word-n.ensures

pub shape_of-out : goal.shape_of-out
shape_of-out c = search (three_laws, rules)

pub returns : goal.returns
returns c = let third = c in
    let second = third in
    let first = second in
    let start = first in
    three-done start.args.a start.args.b start.args.c _ _ _ start.requires _ _ first.put_word-m.ensures _ _ second.put_word-n.ensures _ _ third.put_word.ensures
