-- What an honest store does: it fails nothing, and gives each page's last record put. What a run has of it then.
use Rattle.std.specs.Prelude.{◌≡◌, false, if◌then◌else◌, List, [], ◌∷◌, Option, Some, None}
use Rattle.sgx_types.specs.declared.names.Page.{Page}
use Rattle.sgx_types.specs.Pages.{same_page}
use Rattle.sgx_types.specs.Sealed.{Sealed}
use Rattle.backing_store.specs.Calls.{Call, Given, Gift, Got, Nothing, Put, Room}

-- ---- the store

abbrev pub last_put_after : Call → Page → Option Sealed → Option Sealed
last_put_after (Put page rec failed) g before = if same_page page g then Some rec else before
last_put_after _ g before = before

-- the record of a page's last put
abbrev pub last_put : List Call → Page → Option Sealed
last_put [] g = None
last_put (call ∷ calls) g = last_put_after call g (last_put calls g)

abbrev pub gift_of : Option Sealed → Gift
gift_of None = Nothing
gift_of (Some rec) = Given rec

abbrev pub IsHonestCall : Call → List Call → Type 0
IsHonestCall (Room page failed) calls = failed ≡ false
IsHonestCall (Put page rec failed) calls = failed ≡ false
IsHonestCall (Got page gave) calls = gave ≡ gift_of (last_put calls page)

-- no call failed, and each get gave the record of the page's last put
abbrev pub IsHonest : List Call → Type 0
IsHonest [] = Unit {0}
IsHonest (call ∷ calls) = IsHonestCall call calls × IsHonest calls
