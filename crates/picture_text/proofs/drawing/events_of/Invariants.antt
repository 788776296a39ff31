use Rattle.std.proofs.Common.{◌≡◌, ◌≤◌, ◌*◌, reverse, take}
use Rattle.picture_text.specs.Events.{counts_of, events_of}
use Rattle.picture_text.specs.inner.Following.{Follows}
use Rattle.picture_text.proofs.drawing.events_of.Given as goal

abbrev pub invariant-loop-place : goal.invariant-loop-place
invariant-loop-place l = record {
  follows : Follows l.spans (reverse (take l.place l.entries));
  counts : l.counts ≡ counts_of (reverse (take l.place l.entries));
  frames : l.counts.frames ≤ l.place;
  pages : l.counts.pages ≤ 2 * l.place;
  events : l.events.items ≡ events_of (reverse (take l.place l.entries));
}
