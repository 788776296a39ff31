use Rattle.std.proofs.Common.{◌++◌, ◌∷◌, [], map, ap, ◌∙◌}
use Rattle.std.proofs.lemmas.List.{take_all}
use Rattle.std.specs.Fmt.{decimal}
use Rattle.std.specs.Prelude.{codes}
use Rattle.sgx_types.specs.declared.names.Cpu.{Cpu}
use Rattle.text_words.specs.inner.Words.{with_words}
use Rattle.text_words.proofs.LineLaws.{line_text_cons}
use Rattle.command_query.proofs.LineLaws.{cached_more}
use Rattle.command_query.proofs.texts.push_cached.Goals as goal

pub loop-cpu-preserved : goal.loop-cpu-preserved
loop-cpu-preserved c =
    c.in_ok-push_word-2.ensures.text
    ∙ (λ i. (c.in_ok-push.ensures.items ∙ ap (λ text. text ++ 32 ∷ []) c.loop-cpu.invariant) i ++ decimal (c.from.ensures i))
    ∙ cached_more c.push_word.new.onto.items c.args.cpus.now c.loop-cpu.cpu-index _ c.loop-cpu-test.true

pub returns : goal.returns
returns c =
    let words = map (λ (p : Cpu). decimal p.0) c.args.cpus.now in
    let all = take_all c.loop-cpu.cpu-index c.args.cpus.now c.loop-cpu-test.false in
    c.in_ok-push-2.ensures.items
    ∙ ap (λ text. text ++ 10 ∷ [])
    (c.loop-cpu.invariant
    ∙ (λ i. with_words (c.in_ok-push_word.ensures.text i) (map (λ (p : Cpu). decimal p.0) (all i))))
    ∙ line_text_cons c.args.text.now.items (codes "cached") words
