-- `write` answers as the definition, and writes the file where there is one with room.
use mathlib.Core.Path.{ap}
use mathlib.Core.Bool.{not}
use Rattle.b3d_write.proofs.WriteLaws.{write-unsound, asked-rooms, asked-slots, asked_sizable, write-long, write-short, asked-some, write_done}
use borrow.Author.Rules.{rules}
use Rattle.b3d_write.proofs.write.Goals as goal

pub returns-then-not-sound : goal.returns-then-not-sound
returns-then-not-sound c = write-unsound _ _ _ _ _ _ _ _ _ _ _ _ _ _ _ _ c.sound.ensures _ (ap not c.if-not-sound.true)

pub file_bytes-size-requires : goal.file_bytes-size-requires
file_bytes-size-requires c = let h = asked-rooms _ _ _ _ _ _ _ _ _ _ _ _ _ _ _ _ c.sound.ensures (ap not c.if-not-sound.false) _ c.sizes-all.ensures _ _ c.size-textures.ensures c.size-brushes.ensures in record { slots_le_most_slots = (asked-slots _ _ _ _ _ _ _ _ _ _ _ _ _ _ _ _ c.sound.ensures (ap not c.if-not-sound.false) _ c.sizes-all.ensures _ _ c.size-textures.ensures c.size-brushes.ensures, h.room₁, h.room₂, h.few₁, h.few₂); nodes_sizable = asked_sizable _ _ _ _ _ _ _ _ _ _ _ _ _ _ _ _ c.sound.ensures (ap not c.if-not-sound.false) _ c.sizes-all.ensures _ _ c.size-textures.ensures c.size-brushes.ensures }

pub returns-then-size-gt-MOST_BYTES : goal.returns-then-size-gt-MOST_BYTES
returns-then-size-gt-MOST_BYTES c = write-long _ _ _ _ _ _ _ _ _ _ _ _ _ _ _ _ c.sound.ensures (ap not c.if-not-sound.false) _ c.sizes-all.ensures _ _ c.size-textures.ensures c.size-brushes.ensures _ c.file_bytes-size.ensures _ c.if-size-gt-MOST_BYTES.true

pub returns-then-out-size : goal.returns-then-out-size
returns-then-out-size c = write-short _ _ _ _ _ _ _ _ _ _ _ _ _ _ _ _ c.sound.ensures (ap not c.if-not-sound.false) _ c.sizes-all.ensures _ _ c.size-textures.ensures c.size-brushes.ensures _ c.file_bytes-size.ensures _ c.if-size-gt-MOST_BYTES.false c.if-out-size.true

pub write_counted-requires : goal.write_counted-requires
write_counted-requires c = record { rooms = asked-rooms _ _ _ _ _ _ _ _ _ _ _ _ _ _ _ _ c.sound.ensures (ap not c.if-not-sound.false) _ c.sizes-all.ensures _ _ c.size-textures.ensures c.size-brushes.ensures; some = asked-some _ _ _ _ _ _ _ _ _ _ _ _ _ _ _ _ c.sound.ensures (ap not c.if-not-sound.false) _ c.sizes-all.ensures _ _ c.size-textures.ensures c.size-brushes.ensures _ c.file_bytes-size.ensures _ c.if-size-gt-MOST_BYTES.false c.if-out-size.false }

pub overflow_cast-result-2 : goal.overflow_cast-result-2
overflow_cast-result-2 c = let h = c.if-size-gt-MOST_BYTES.false in search rules

pub returns : goal.returns
returns c = write_done _ _ _ _ _ _ _ _ _ _ _ _ _ _ _ _ c.sound.ensures (ap not c.if-not-sound.false) _ c.sizes-all.ensures _ _ c.size-textures.ensures c.size-brushes.ensures _ c.file_bytes-size.ensures _ c.if-size-gt-MOST_BYTES.false c.if-out-size.false _ _ c.write_counted.ensures
