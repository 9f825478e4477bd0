use Rattle.std.proofs.Common.{rules, ◌≡◌, Ok, subst}
use Rattle.roadtext.specs.Checked.{junctions_read}
use Rattle.roadtext.specs.Read.{room_of}
use Rattle.roadtext.specs.Reading.{read_text}
use Rattle.roadtext.proofs.reading.read.Goals as goal

pub returns-in_err-asks : goal.returns-in_err-asks
returns-in_err-asks g c =
    let read : Ok c.in_ok-count.count ≡ junctions_read (read_text g.M.Measure.scale (room_of c.args.junctions.now c.args.roads.now) c.args.text.now) =
    subst (λ r. Ok c.in_ok-count.count ≡ junctions_read (read_text g.M.Measure.scale r c.args.text.now)) c.of-room.ensures c.in_ok-count.ensures.reads in
    search rules
