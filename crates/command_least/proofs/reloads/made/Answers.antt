use Rattle.std.proofs.Common.{◌≡◌, ◌+◌, ◌≤◌, Bool, true, false, if◌then◌else◌, List, reverse, take, refl, ap}
use Rattle.std.proofs.Common.{◌∙◌, arith}
use Rattle.std.specs.Int.{from_bool}
use Rattle.sgx_rules.specs.declared.entries.Entry.{Entry}
use Rattle.command_least.proofs.ReloadLaws.{made_more, regs_more}
use Rattle.command_least.proofs.reloads.made.Goals as goal

as_number : (b : Bool) → from_bool b ≡ (if b then 1 else 0)
as_number true = refl
as_number false = refl

at_most_one : (b : Bool) → (if b then 1 else 0) ≤ 1
at_most_one true = omega arith
at_most_one false = omega arith

pub loop-entry-preserved : goal.loop-entry-preserved
loop-entry-preserved c =
    let was = c.loop-entry.invariant in
    let past : List Entry = reverse (take c.loop-entry.entry-index c.args.entries.now) in
    let one : c.from-count.result ≡ (if c.brings_back.result then 1 else 0) = c.from-count.ensures ∙ as_number c.brings_back.result in
    record {
      regs = regs_more c.args.entries.now c.loop-entry.entry-index _ c.note.new.regs c.loop-entry-test.true
          (c.in_ok-note.ensures past was.regs);
      count = ap (λ n. c.loop-entry.count + n) (one ∙ ap (λ b. if b then 1 else 0) (c.brings_back.ensures past was.regs))
          ∙ made_more c.args.entries.now c.loop-entry.entry-index _ c.loop-entry.count c.loop-entry-test.true was.count;
      few = omega (arith, was.few, one, at_most_one c.brings_back.result);
    }
