-- The calls that a run makes of the backing store, and which of them each entry of its trace tells of. Both stand newest first.
use Rattle.std.specs.Prelude.{◌≡◌, Bool, true, false, if◌then◌else◌, List, [], ◌∷◌}
use Rattle.sgx_rules.specs.declared.entries.Action.TheVariants.{Ewb, EldStart}
use Rattle.sgx_rules.specs.declared.entries.Answer.{Answer}
use Rattle.sgx_rules.specs.declared.entries.Answer.TheVariants.{Moved}
use Rattle.sgx_rules.specs.declared.entries.BusWhy.{BusWhy}
use Rattle.sgx_rules.specs.declared.entries.BusWhy.TheVariants as reasons
use Rattle.sgx_rules.specs.declared.entries.Entry.{Entry}
use Rattle.sgx_rules.specs.declared.entries.Event.{Event}
use Rattle.sgx_rules.specs.declared.entries.Event.TheVariants.{Did, Refused, Age, Bus}
use Rattle.sgx_rules.specs.declared.entries.Look.{Look}
use Rattle.sgx_rules.specs.declared.entries.Look.TheVariants as looks
use Rattle.sgx_types.specs.declared.names.Page.{Page}
use Rattle.sgx_types.specs.Pages.{same_page}
use Rattle.backing_store.specs.Calls.{Call, Failed, Given, Got, Nothing, Put, Room}

-- ---- pages that were lost

abbrev pub lost_after : Call → Page → Bool → Bool
lost_after (Put page rec failed) g before = if same_page page g then failed else before
lost_after _ g before = before

-- whether the last put of a page failed: the page is lost
abbrev pub is_lost : List Call → Page → Bool
is_lost [] g = false
is_lost (call ∷ calls) g = lost_after call g (is_lost calls g)

-- ---- which call an entry comes with

abbrev pub without_last : List Call → List Call
without_last [] = []
without_last (call ∷ calls) = calls

-- of the calls up to an entry, those before it. A look that finds no room or takes its page comes with a room; a done `ewb` with a
-- put; an `eldstart`, done or refused, with a get, and so does an entry that tells that the get failed or gave nothing
abbrev pub before : Event → List Call → List Call
before (Age page looks.NoRoom) calls = without_last calls
before (Age page looks.Taken) calls = without_last calls
before (Did (Ewb f) answer) calls = without_last calls
before (Did (EldStart f page slot) answer) calls = without_last calls
before (Refused (EldStart f page slot) why) calls = without_last calls
before (Bus page reasons.GetFailed) calls = without_last calls
before (Bus page reasons.NoRecord) calls = without_last calls
before _ calls = calls

-- the last call asked for place for this page, and failed or did not
abbrev pub IsRoom : Page → Bool → List Call → Type 0
IsRoom page failed (Room g has_failed ∷ calls) = (g ≡ page) × (has_failed ≡ failed)
IsRoom page failed _ = ⊥

-- .. or put this page's record, with this tag
abbrev pub IsPut : Answer → List Call → Type 0
IsPut (Moved page version tag) (Put g rec failed ∷ calls) = (g ≡ page) × (rec.tag ≡ tag)
IsPut _ _ = ⊥

-- .. or asked for a record of this page, which is not lost, and was given one
abbrev pub IsGiven : Page → List Call → Type 0
IsGiven page (Got g (Given rec) ∷ calls) = (g ≡ page) × (is_lost calls page ≡ false)
IsGiven page _ = ⊥

-- .. failed
abbrev pub IsFailed : Page → List Call → Type 0
IsFailed page (Got g Failed ∷ calls) = (g ≡ page) × (is_lost calls page ≡ false)
IsFailed page _ = ⊥

-- .. or was given nothing
abbrev pub IsNothing : Page → List Call → Type 0
IsNothing page (Got g Nothing ∷ calls) = (g ≡ page) × (is_lost calls page ≡ false)
IsNothing page _ = ⊥

-- room is asked for a page that is neither held nor young
abbrev pub ComesByLook : Page → Look → List Call → Type 0
ComesByLook page looks.NoRoom calls = IsRoom page true calls
ComesByLook page looks.Taken calls = IsRoom page false calls
ComesByLook page _ calls = Unit {0}

-- a page is told as lost only where it is
abbrev pub ComesByBus : Page → BusWhy → List Call → Type 0
ComesByBus page reasons.GetFailed calls = IsFailed page calls
ComesByBus page reasons.NoRecord calls = IsNothing page calls
ComesByBus page reasons.PutFailed calls = is_lost calls page ≡ true
ComesByBus page _ calls = Unit {0}

-- the calls up to an entry end with the one that it comes with
abbrev pub ComesWith : Event → List Call → Type 0
ComesWith (Age page look) calls = ComesByLook page look calls
ComesWith (Did (Ewb f) answer) calls = IsPut answer calls
ComesWith (Did (EldStart f page slot) answer) calls = IsGiven page calls
ComesWith (Refused (EldStart f page slot) why) calls = IsGiven page calls
ComesWith (Bus page why) calls = ComesByBus page why calls
ComesWith _ calls = Unit {0}

-- the calls are those that the entries come with, and no others, in their order
abbrev pub CallsAre : List Entry → List Call → Type 0
CallsAre [] calls = calls ≡ []
CallsAre (e ∷ past) calls = ComesWith e.event calls × CallsAre past (before e.event calls)
