use Rattle.std.proofs.Common.{◌++◌, ◌+◌, ℕ, List, ap, sym, ◌∙◌}
use Rattle.std.specs.Prelude.{codes}
use Rattle.std.specs.Fmt.{decimal}
use Rattle.picture_text.specs.declared.events.Mark.{Mark}
use Rattle.picture_text.specs.PictureText.{cause, event_words, mark_text, on_lane, spaced, span_words}
use Rattle.picture_text.proofs.AppendLaws.{pushed_six, pushed_three}
use Rattle.picture_text.proofs.TextLaws.{count_parts, line_parts}
use Rattle.picture_text.proofs.lines.write_event.Goals as goal

pub returns-in-Begins-clause-text : goal.returns-in-Begins-clause-text
returns-in-Begins-clause-text c = λ lanes numbered.
    let o = c.args.onto.now.items in
    let event = c.args.event.now in
    let on = on_lane lanes event.lane in
    let named = spaced (span_words c.in-Begins.span) in
    let why = cause c.args.entry.now event.place in
    let lead = codes "{\"ph\":\"B\"," in
    let time = codes ",\"ts\":" in
    let name = codes ",\"name\":\"" in
    let end = codes "\"" in
    pushed_six o c.write_parts.new.onto.items c.write_lane.new.onto.items c.write_parts-in-Begins.new.onto.items
    c.write_span_name.new.onto.items c.write_parts-in-Begins-2.new.onto.items c.write_cause.new.onto.items
    lead on (time ++ (decimal (event.place + 1) ++ name)) named end why
    c.write_parts.ensures.text (c.write_lane.ensures.text lanes numbered) c.write_parts-in-Begins.ensures.text
    c.write_span_name.ensures.text
    c.write_parts-in-Begins-2.ensures.text c.write_cause.ensures.text
    ∙ ap (λ (line : List ℕ). o ++ line) (line_parts lead on time (decimal (event.place + 1)) name named end why)
    ∙ ap (λ (mark : Mark). o ++ mark_text lanes c.args.entry.now event.place event.lane mark) (sym c.in-Begins.is)

pub returns-in-Does-clause-text : goal.returns-in-Does-clause-text
returns-in-Does-clause-text c = λ lanes numbered.
    let o = c.args.onto.now.items in
    let event = c.args.event.now in
    let on = on_lane lanes event.lane in
    let named = spaced (event_words c.args.entry.now.event) in
    let why = cause c.args.entry.now event.place in
    let lead = codes "{\"ph\":\"X\"," in
    let time = codes ",\"ts\":" in
    let name = codes ",\"dur\":1,\"name\":\"" in
    let end = codes "\"" in
    pushed_six o c.write_parts-in-Does.new.onto.items c.write_lane-in-Does.new.onto.items c.write_parts-in-Does-2.new.onto.items
    c.write_event_name.new.onto.items c.write_parts-in-Does-3.new.onto.items c.write_cause-in-Does.new.onto.items
    lead on (time ++ (decimal event.place ++ name)) named end why
    c.write_parts-in-Does.ensures.text (c.write_lane-in-Does.ensures.text lanes numbered) c.write_parts-in-Does-2.ensures.text
    c.write_event_name.ensures.text
    c.write_parts-in-Does-3.ensures.text c.write_cause-in-Does.ensures.text
    ∙ ap (λ (line : List ℕ). o ++ line) (line_parts lead on time (decimal event.place) name named end why)
    ∙ ap (λ (mark : Mark). o ++ mark_text lanes c.args.entry.now event.place event.lane mark) (sym c.in-Does.is)

pub returns-in-Counts-clause-text : goal.returns-in-Counts-clause-text
returns-in-Counts-clause-text c = λ lanes numbered.
    let o = c.args.onto.now.items in
    let event = c.args.event.now in
    let on = on_lane lanes event.lane in
    let lead = codes "{\"ph\":\"C\"," in
    let time = codes ",\"ts\":" in
    let at = decimal (event.place + 1) in
    let name = codes ",\"name\":\"" in
    let named = c.counter_name.result.now in
    let args = codes "\",\"args\":{\"n\":" in
    let value = decimal c.in-Counts.value in
    let end = codes "}},\n" in
    pushed_three o c.write_parts-in-Counts.new.onto.items c.write_lane-in-Counts.new.onto.items c.write_parts-in-Counts-2.new.onto.items
    lead on (time ++ (at ++ (name ++ (named ++ (args ++ (value ++ end))))))
    c.write_parts-in-Counts.ensures.text (c.write_lane-in-Counts.ensures.text lanes numbered) c.write_parts-in-Counts-2.ensures.text
    ∙ ap (λ (line : List ℕ). o ++ line) (count_parts lead on time at name named args value end)
    ∙ ap (λ (n : List ℕ). o ++ ((((((((lead ++ on) ++ time) ++ at) ++ name) ++ n) ++ args) ++ value) ++ end))
    (sym c.counter_name.ensures.name)
    ∙ ap (λ (mark : Mark). o ++ mark_text lanes c.args.entry.now event.place event.lane mark) (sym c.in-Counts.is)
