-- What is true of every EPC.
use Rattle.std.specs.Prelude.{◌≡◌, ◌≤◌, List, All, length, map}
use Rattle.epcm_entry.specs.declared.epc.Epc.TheInside.{Inside}
use Rattle.epcm_entry.specs.inner.EntryView.{is_free}
use Rattle.epcm_entry.specs.inner.Words.{IsPage}
use Rattle.epcm_entry.specs.inner.Epc.{EpcFrame, frames_of}

abbrev pub epc_of : Inside → List EpcFrame
epc_of e = frames_of e.entries.items e.pages.items

-- at most 4096 frames, each with a page, and the free ones marked
pub record IsEpcKept (e : Inside) : Type 0 where
  pub small : length e.entries.items ≤ 4096
  pub paged : length e.pages.items ≡ length e.entries.items
  pub pages : All IsPage e.pages.items
  pub marked : e.free ≡ map is_free e.entries.items
