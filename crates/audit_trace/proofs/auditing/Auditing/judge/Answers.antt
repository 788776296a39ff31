use Rattle.std.proofs.Common.{◌∙◌, refl, sym}
use Rattle.audit_machine.specs.inner.Kept.{records_of}
use Rattle.audit_trace.proofs.JudgeLaws.{age_broken, among, asked_by, broken_judged, can_be, can_check, can_follow, is_actor, judged}
use Rattle.audit_trace.proofs.JudgeLaws.{kick_broken, ready, script_broken, script_kept, seen, still_ended}
use Rattle.audit_trace.proofs.auditing.Auditing.judge.Goals as goal

pub keeps_script-requires : goal.keeps_script-requires
keeps_script-requires c = record { ready = ready c.args.job.now c.args.self.now c.requires }

pub returns-then-not-keeps_script : goal.returns-then-not-keeps_script
returns-then-not-keeps_script c =
    λ at. script_broken c.args.job.now c.args.self.now c.args.entry.now at c.keeps_script.result c.keeps_script.ensures
    c.if-not-keeps_script.true

pub mode_of-before-requires : goal.mode_of-before-requires
mode_of-before-requires c =
    among c.args.job.now c.args.self.now c.args.entry.now c.requires
    (script_kept c.args.job.now c.args.self.now c.args.entry.now c.requires c.keeps_script.result c.keeps_script.ensures
    c.if-not-keeps_script.false)

pub ask-requires-clause-actor : goal.ask-requires-clause-actor
ask-requires-clause-actor c =
    is_actor c.args.job.now c.args.self.now c.args.entry.now c.requires
    (script_kept c.args.job.now c.args.self.now c.args.entry.now c.requires c.keeps_script.result c.keeps_script.ensures
    c.if-not-keeps_script.false)

pub ask-requires-clause-can : goal.ask-requires-clause-can
ask-requires-clause-can c = can_check c.args.job.now c.args.self.now c.requires

pub returns-then-is_some : goal.returns-then-is_some
returns-then-is_some c = λ at.
    (let j = c.args.job.now in
    let a = c.args.self.now in
    let e = c.args.entry.now in
    let script = script_kept j a e at c.keeps_script.result c.keeps_script.ensures c.if-not-keeps_script.false in
    broken_judged j a e at script c.ask.new.machine (records_of c.ask.new.records) c.in_ok-broken.broken c.in_ok-broken.ensures.answer _
    (sym c.is_some.ensures ∙ c.if-is_some.true))

pub returns-then-not-keeps_age : goal.returns-then-not-keeps_age
returns-then-not-keeps_age c = λ at.
    (let j = c.args.job.now in
    let a = c.args.self.now in
    let e = c.args.entry.now in
    let script = script_kept j a e at c.keeps_script.result c.keeps_script.ensures c.if-not-keeps_script.false in
    let asked = asked_by j a e at script c.ask.new.machine (records_of c.ask.new.records) c.in_ok-broken.broken
    c.in_ok-broken.ensures.answer (sym c.is_some.ensures ∙ c.if-is_some.false) in
    age_broken j a e at script c.ask.new.machine (records_of c.ask.new.records) asked c.keeps_age-keeps_age.result
    c.keeps_age-keeps_age.ensures c.if-not-keeps_age.true)

pub returns-then-not-keeps_kick : goal.returns-then-not-keeps_kick
returns-then-not-keeps_kick c = λ at.
    (let j = c.args.job.now in
    let a = c.args.self.now in
    let e = c.args.entry.now in
    let script = script_kept j a e at c.keeps_script.result c.keeps_script.ensures c.if-not-keeps_script.false in
    let asked = asked_by j a e at script c.ask.new.machine (records_of c.ask.new.records) c.in_ok-broken.broken
    c.in_ok-broken.ensures.answer (sym c.is_some.ensures ∙ c.if-is_some.false) in
    kick_broken j a e at script c.ask.new.machine (records_of c.ask.new.records) asked c.keeps_age-keeps_age.result
    c.keeps_age-keeps_age.ensures c.if-not-keeps_age.false c.keeps_kick-keeps_kick.result c.keeps_kick-keeps_kick.ensures
    c.if-not-keeps_kick.true)

pub follow-requires : goal.follow-requires
follow-requires c =
    let j = c.args.job.now in
    let a = c.args.self.now in
    let e = c.args.entry.now in
    let at = c.requires in
    let script = script_kept j a e at c.keeps_script.result c.keeps_script.ensures c.if-not-keeps_script.false in
    let asked = asked_by j a e at script c.ask.new.machine (records_of c.ask.new.records) c.in_ok-broken.broken
    c.in_ok-broken.ensures.answer (sym c.is_some.ensures ∙ c.if-is_some.false) in
    can_follow j a e at script c.ask.new.machine (records_of c.ask.new.records) asked c.keeps_age-keeps_age.result
    c.keeps_age-keeps_age.ensures c.if-not-keeps_age.false c.keeps_kick-keeps_kick.result c.keeps_kick-keeps_kick.ensures
    c.if-not-keeps_kick.false c.note_pass.new.pass c.ask.new.records refl c.in_ok-broken.ensures.cpus
    c.mode_of-before.result c.start_begun-start.result c.mode_of-before.ensures
    (still_ended e.event c.start_ended-ended.result c.start_begun-start.result a.machine c.start_ended-ended.ensures
    c.start_begun-start.ensures.others)
    c.start_begun-start.ensures.begun c.note_pass.ensures

pub returns : goal.returns
returns c = λ at.
    (let j = c.args.job.now in
    let a = c.args.self.now in
    let e = c.args.entry.now in
    let script = script_kept j a e at c.keeps_script.result c.keeps_script.ensures c.if-not-keeps_script.false in
    let asked = asked_by j a e at script c.ask.new.machine (records_of c.ask.new.records) c.in_ok-broken.broken
    c.in_ok-broken.ensures.answer (sym c.is_some.ensures ∙ c.if-is_some.false) in
    judged j a e at script c.ask.new.machine (records_of c.ask.new.records) asked c.keeps_age-keeps_age.result
    c.keeps_age-keeps_age.ensures c.if-not-keeps_age.false c.keeps_kick-keeps_kick.result c.keeps_kick-keeps_kick.ensures
    c.if-not-keeps_kick.false c.note_pass.new.pass c.ask.new.records refl c.in_ok-broken.ensures.cpus
    c.mode_of-before.result c.start_begun-start.result c.mode_of-before.ensures
    (still_ended e.event c.start_ended-ended.result c.start_begun-start.result a.machine c.start_ended-ended.ensures
    c.start_begun-start.ensures.others)
    c.start_begun-start.ensures.begun c.note_pass.ensures c.follow.new.self c.follow.ensures)

pub keeps_age-keeps_age-requires : goal.keeps_age-keeps_age-requires
keeps_age-keeps_age-requires c = record {
  can =
      can_be c.args.job.now c.args.self.now c.args.entry.now c.requires
      (script_kept c.args.job.now c.args.self.now c.args.entry.now c.requires c.keeps_script.result c.keeps_script.ensures
      c.if-not-keeps_script.false);
}

pub note_pass-requires : goal.note_pass-requires
note_pass-requires c =
    seen c.args.job.now c.args.self.now c.args.entry.now c.requires
    (script_kept c.args.job.now c.args.self.now c.args.entry.now c.requires c.keeps_script.result c.keeps_script.ensures
    c.if-not-keeps_script.false) c.keeps_age-keeps_age.result c.keeps_age-keeps_age.ensures
