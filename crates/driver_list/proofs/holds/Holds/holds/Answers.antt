use Rattle.std.proofs.Common.{◌≡◌, ◌∙◌, ◌<◌, List, length, map, sym, ap, arith}
use Rattle.std.specs.Global.{Vec}
use Rattle.std.proofs.lemmas.List.{length-map}
use Rattle.sgx_types.specs.declared.names.Page.{Page}
use Rattle.driver_list.specs.inner.Holds.{HoldTable, holder_of, own_of, holds_page}
use Rattle.driver_list.specs.inner.KeptHolds.{pages_in}
use Rattle.driver_list.proofs.HoldLaws.{own_read, any_swap}
use Rattle.driver_list.proofs.holds.Holds.holds.Goals as goal

pub returns : goal.returns
returns c =
    let vs : List (Vec Page) = c.self.inside.own.items in
    let within : c.number_of.result < length vs =
    omega (arith, c.number_of.ensures, c.requires, c.self.invariant.holds.holders, length-map vs pages_in) in
    let read : own_of (map pages_in vs) c.number_of.result ≡ c.index.result.now.items =
    own_read vs c.number_of.result c.index.result.now within c.index.ensures in
    let same : c.deref.result.now ≡ own_of c.args.self.now.own (holder_of c.args.who) =
    c.deref.ensures.value ∙ sym read ∙ ap (own_of (map pages_in vs)) c.number_of.ensures
    ∙ ap (λ (t : HoldTable). own_of t.own (holder_of c.args.who)) c.self.view_is in
    c.contains.ensures.value ∙ any_swap c.args.page c.deref.result.now ∙ ap (λ (ps : List Page). holds_page ps c.args.page) same
