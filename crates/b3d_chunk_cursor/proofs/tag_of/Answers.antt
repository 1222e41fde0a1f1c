-- `tag_of` answers what `tag_of` gives.
use Rattle.b3d_chunk_cursor.proofs.TagLaws.{tagging}
use borrow.Author.Rules.{rules}
use Rattle.b3d_chunk_cursor.proofs.tag_of.Goals as goal

pub returns-in-1144209986 : goal.returns-in-1144209986
returns-in-1144209986 c = search (tagging, rules)

pub returns-in-1398293844 : goal.returns-in-1398293844
returns-in-1398293844 c = search (tagging, rules)

pub returns-in-1398100546 : goal.returns-in-1398100546
returns-in-1398100546 c = search (tagging, rules)

pub returns-in-1162104654 : goal.returns-in-1162104654
returns-in-1162104654 c = search (tagging, rules)

pub returns-in-1213416781 : goal.returns-in-1213416781
returns-in-1213416781 c = search (tagging, rules)

pub returns-in-1398035030 : goal.returns-in-1398035030
returns-in-1398035030 c = search (tagging, rules)

pub returns-in-1397314132 : goal.returns-in-1397314132
returns-in-1397314132 c = search (tagging, rules)

pub returns-in-1162760002 : goal.returns-in-1162760002
returns-in-1162760002 c = search (tagging, rules)

pub returns-in-1398359371 : goal.returns-in-1398359371
returns-in-1398359371 c = search (tagging, rules)

pub returns-in-1296649793 : goal.returns-in-1296649793
returns-in-1296649793 c = search (tagging, rules)

pub returns-in_default : goal.returns-in_default
returns-in_default c = search (tagging, rules)
