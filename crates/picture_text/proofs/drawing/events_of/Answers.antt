use Rattle.std.proofs.Common.{◌<◌, length, take, reverse, arith}
use Rattle.picture_text.proofs.FollowLaws.{counts_next, follows_next, events_next, place_next}
use Rattle.picture_text.proofs.drawing.events_of.Goals as goal

pub loop-place-preserved : goal.loop-place-preserved
loop-place-preserved c =
    let entries = c.args.entries.now in
    let past = reverse (take c.loop-place.place entries) in
    let within : c.loop-place.place < length entries = omega arith in
    let so_far = c.loop-place.invariant in
    record {
      follows = follows_next c.push_entry.new.spans entries c.loop-place.place _ within
          (c.in_ok-push_entry.ensures.follows past so_far.follows);
      counts = counts_next c.push_entry.new.counts entries c.loop-place.place _ within
          (c.in_ok-push_entry.ensures.counts past so_far.follows so_far.counts);
      frames = c.in_ok-push_entry.ensures.frames;
      pages = c.in_ok-push_entry.ensures.pages;
      events = events_next c.push_entry.new.events.items c.loop-place.events.items entries c.loop-place.place _ within so_far.events
          (c.in_ok-push_entry.ensures.events past so_far.follows so_far.counts (place_next entries c.loop-place.place within));
    }
