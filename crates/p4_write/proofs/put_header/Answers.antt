-- `p4_write::put_header` meets its contract: five writes in a row are one, and the room for all is room for each.
use Rattle.p4_write.proofs.Headers.{room-magic, room-width, room-space, room-height, room-end, header-put}
use Rattle.p4_write.proofs.put_header.Goals as goal

pub put-requires : goal.put-requires
put-requires c = search room-magic

pub put_number-requires : goal.put_number-requires
put_number-requires c = search room-width

pub put-requires-2 : goal.put-requires-2
put-requires-2 c = search room-space

pub put_number-requires-2 : goal.put_number-requires-2
put_number-requires-2 c = search room-height

pub put-requires-3 : goal.put-requires-3
put-requires-3 c = search room-end

pub returns : goal.returns
returns c = header-put _ _ c.requires c.put.ensures c.put_number.ensures c.put-2.ensures c.put_number-2.ensures c.put-3.ensures
