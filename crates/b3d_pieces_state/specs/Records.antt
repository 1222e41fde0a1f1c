-- An open chunk as a record of numbers, which are the words of its record in a row, in the same order.
use Rattle.b3d_pieces_spec.specs.declared.Open.{Open}
use Rattle.b3d_spec.specs.Tags.{tag_number}
use Rattle.b3d_pieces_spec.specs.Row.{flag, open_of}
use Rattle.b3d_pieces_state.specs.declared.OpenRecord.{OpenRecord}

-- the open chunk that the record n stands for
unfoldable pub open_in : OpenRecord → Open
open_in n = open_of n.tag n.head n.end n.turn n.spent n.level n.first n.second n.third n.count n.told

-- the record of the open chunk f
unfoldable pub record_of : Open → OpenRecord
record_of f = record {
  tag = tag_number f.tag;
  head = f.head;
  end = f.end;
  turn = f.turn;
  spent = flag f.spent;
  level = f.level;
  first = f.kept.first;
  second = f.kept.second;
  third = f.kept.third;
  count = f.count;
  told = f.told;
}
