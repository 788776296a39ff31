use Rattle.std.proofs.Common.{◌∷◌, option_to_list, sym, ap, ◌∙◌}
use Rattle.sgx_rules.specs.Frames.{vas_made}
use Rattle.trace_places.specs.Places.{moved, place_of}
use Rattle.trace_places.specs.inner.Tables.{Stands, place_in}
use Rattle.trace_places.proofs.StandLaws.{stands_after, standing_place}
use Rattle.trace_places.proofs.places.Places.push_reserved.Goals as goal

pub returns-in-Some-clause-stands : goal.returns-in-Some-clause-stands
returns-in-Some-clause-stands c = λ past s.
    let makes = c.make_and_tell.ensures.makes in
    stands_after c.args.self.now c.make_and_tell.new.self past c.args.entry.now c.in-Some.change s
    (sym c.change_by-change.ensures ∙ c.in-Some.is) makes.tenants makes.frames makes.gone
    (makes.next_va ∙ c.va_after-self.ensures (vas_made past) s.next_va)

pub returns-in-Some-clause-moves : goal.returns-in-Some-clause-moves
returns-in-Some-clause-moves c = λ past s g.
    let e = c.args.entry.now in
    let old = c.args.self.now in
    let new = c.make_and_tell.new.self in
    let makes = c.make_and_tell.ensures.makes in
    let after : Stands new (e ∷ past) =
    stands_after old new past e c.in-Some.change s
    (sym c.change_by-change.ensures ∙ c.in-Some.is) makes.tenants makes.frames makes.gone
    (makes.next_va ∙ c.va_after-self.ensures (vas_made past) s.next_va) in
    c.make_and_tell.ensures.moves g
    ∙ ap (λ w. option_to_list (moved w (place_in new g))) (standing_place old past g s)
    ∙ ap (λ w. option_to_list (moved (place_of past g) w)) (standing_place new (e ∷ past) g after)
