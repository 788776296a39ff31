-- The words of some fields, and of others behind them.
use Rattle.std.proofs.Common.{◌≡◌, ℕ, List, ◌++◌, Option, Some, None, refl, ap, ◌∙◌}
use Rattle.std.proofs.lemmas.Grind.{flat_map-append}
use Rattle.trace_text.specs.declared.edition.Edition.{Edition}
use Rattle.trace_text.specs.declared.edition.Edition.TheVariants as editions
use Rattle.sgx_rules.specs.declared.entries.Action.TheVariants as actions
use Rattle.sgx_types.specs.declared.lawful.PageInit.{PageInit}
use Rattle.sgx_types.specs.declared.lawful.PageInit.TheVariants as inits
use Rattle.sgx_types.specs.declared.names.Frame.{Frame}
use Rattle.sgx_types.specs.declared.names.Kind.{Kind}
use Rattle.sgx_types.specs.declared.names.Perm.{Perm}
use Rattle.sgx_rules.specs.declared.refusals.Refusal.{Refusal}
use Rattle.sgx_rules.specs.declared.refusals.Refusal.TheVariants as why
use Rattle.trace_text.specs.Fields.{Field, action_fields, field_words, refusal_fields, words_of_fields}

pub words_append : (edition : Edition) (fields others : List Field)
    → words_of_fields edition (fields ++ others) ≡ words_of_fields edition fields ++ words_of_fields edition others
words_append edition fields others = flat_map-append (field_words edition) fields others

-- no refusal tells a page, so each edition has it alike
pub refusal_words : (edition : Edition) (refusal : Refusal)
    → words_of_fields edition (refusal_fields refusal) ≡ words_of_fields editions.Two (refusal_fields refusal)
refusal_words edition why.WrongMode = refl
refusal_words edition refusal = refl

-- the words of a refusal behind those of its instruction
pub refused_words : (edition : Edition) (fields : List Field) (refusal : Refusal)
    → words_of_fields edition (fields ++ refusal_fields refusal)
    ≡ words_of_fields edition fields ++ words_of_fields editions.Two (refusal_fields refusal)
refused_words edition fields refusal = words_append edition fields (refusal_fields refusal)
    ∙ ap (λ words. words_of_fields edition fields ++ words) (refusal_words edition refusal)

-- .. nor does an instruction of a build
pub add_words : (edition : Edition) (enclave number : ℕ) (f : Frame) (kind : Kind) (perm : Perm) (init : PageInit)
    → words_of_fields edition (action_fields (actions.Add enclave number f kind perm init))
    ≡ words_of_fields editions.Two (action_fields (actions.Add enclave number f kind perm init))
add_words edition enclave number f kind perm (inits.Words v) = refl
add_words edition enclave number f kind perm (inits.Tcs ossa nssa) = refl

pub init_words : (edition : Edition) (enclave : ℕ) (expect : Option (List ℕ))
    → words_of_fields edition (action_fields (actions.Init enclave expect))
    ≡ words_of_fields editions.Two (action_fields (actions.Init enclave expect))
init_words edition enclave None = refl
init_words edition enclave (Some digest) = refl
