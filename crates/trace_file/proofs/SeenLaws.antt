-- What a reader of traces has seen of a source, and what it tells at its end.
use Rattle.std.proofs.Common.{◌≡◌, ◌<◌, ◌≤◌, ◌^◌, ℕ, List, [], ◌++◌, length, Option, Some, None, Result, Ok, Err}
use Rattle.std.proofs.Common.{inl, refl, sym, ap, subst, append_assoc, take, length-append, length-take, arith}
use Rattle.std.specs.Prelude.{IfErr, IfOk, IfSome, IsErrOf}
use Rattle.std.proofs.lemmas.List.{append-nil}
use Rattle.io_edges.specs.inner.Sources.{HasRead}
use Rattle.io_edges.proofs.Read.{HasRead-all, HasRead-append, HasRead-bound}
use Rattle.sgx_rules.specs.declared.entries.Entry.{Entry}
use Rattle.trace_text.specs.declared.edition.Edition.{Edition}
use Rattle.trace_reader.specs.Faults.{IsFirstFault}
use Rattle.trace_reader.specs.inner.Faults.{Progress, Reading, Faulted}
use Rattle.trace_reader.specs.inner.Outcomes.{Feeds, Finishes, Tells}
use Rattle.trace_reader.specs.declared.refusals.TraceRefusal.{TraceRefusal}
use Rattle.trace_reader.specs.declared.refusals.TraceRefusal.TheVariants.{Fault, Memory}
use Rattle.trace_file.specs.declared.unread.Unread.{Unread}
use Rattle.trace_file.specs.declared.unread.Unread.TheVariants as ends
use Rattle.trace_file.specs.Reading.{OfRead, Reads}
use Rattle.trace_file.specs.inner.Reading.{IsFaultOf}
use Rattle.trace_file.specs.inner.Seen.{HasSeen}

-- what was fed, and a piece more
with_piece : List ℕ → Progress → Progress
with_piece piece (Reading edition fed) = Reading edition (fed ++ piece)
with_piece piece (Faulted line) = Faulted line

-- a fault stands in what was fed with a piece more, whatever follows
abbrev FaultsWith : List ℕ → ℕ → Progress → Type 0
FaultsWith piece line (Reading edition fed) = (more : List ℕ) → IsFirstFault edition ((fed ++ piece) ++ more) line
FaultsWith piece line (Faulted other) = Unit {0}

still_short : (bytes piece : List ℕ) (n : ℕ) → n ≡ 0 → length bytes ≤ 2 ^ 30 → length (bytes ++ take n piece) ≤ 2 ^ 30
still_short bytes piece n zero short = omega (arith, length-append bytes (take n piece), length-take n piece, zero, short)

module _ (edition : Edition) where
  -- a piece more, which was read or has or had the fault
  pub seen_more : (old new : Progress) (bytes piece : List ℕ) (told : Result (Unit {0}) TraceRefusal) → Feeds old piece told new
      → (told ≡ Err Memory → ⊥)
      → HasSeen edition old bytes
      → HasSeen edition new (bytes ++ piece)
  unfolding with_piece
  seen_more (Reading of fed) new bytes piece (Ok done) feeds not_refused seen =
      let Seen : Progress → Type 0 = λ progress. HasSeen edition progress (bytes ++ piece) in
      subst Seen (sym feeds.0) (ap (with_piece piece) seen)
  seen_more (Reading of fed) new bytes piece (Err (Fault line)) feeds not_refused seen =
      let Seen : Progress → Type 0 = λ progress. HasSeen edition progress (bytes ++ piece) in
      subst Seen (sym feeds.0) (subst (FaultsWith piece line) seen feeds.1)
  seen_more (Reading of fed) new bytes piece (Err Memory) feeds not_refused seen = absurd (not_refused refl)
  seen_more (Faulted line) new bytes piece told feeds not_refused seen =
      let Seen : Progress → Type 0 = λ progress. HasSeen edition progress (bytes ++ piece) in
      let First : List ℕ → Type 0 = λ text. IsFirstFault edition text line in
      subst Seen (sym feeds.1) (λ more. subst First (sym (append_assoc bytes piece more)) (seen (piece ++ more)))

  -- what is told at the end is what all the bytes read as
  pub told_at_end : (progress : Progress) (bytes : List ℕ) (told : Result (List Entry) TraceRefusal) → Finishes progress told
      → HasSeen edition progress bytes
      → Tells edition bytes told
  told_at_end (Reading of fed) bytes (Ok entries) tells seen =
      let Ends : Progress → Type 0 = λ progress. Finishes progress (Ok entries) in subst Ends seen tells
  told_at_end (Reading of fed) bytes (Err (Fault line)) tells seen =
      let Ends : Progress → Type 0 = λ progress. Finishes progress (Err (Fault line)) in subst Ends seen tells
  told_at_end (Reading of fed) bytes (Err Memory) tells seen = absurd tells
  told_at_end (Faulted line) bytes told tells seen =
      let Told : Result (List Entry) TraceRefusal → Type 0 = λ answer. Tells edition bytes answer in
      let First : List ℕ → Type 0 = λ text. IsFirstFault edition text line in
      subst Told (sym tells) (subst First (append-nil bytes) (seen []))

  -- a source that gave more than the most bytes has such a text
  pub too_long : (first now : Option (List ℕ)) (bytes : List ℕ) → HasRead first now bytes → 2 ^ 30 < length bytes
      → OfRead first (λ text. Reads edition text (Err 0))
  too_long None now bytes read long = (bytes, tt, inl (long, refl))
  too_long (Some all) now bytes read long =
      let bound : length bytes ≤ length all = HasRead-bound (Some all) now bytes read in
      (all, refl, inl (omega (arith, long, bound), refl))

  -- at the end of the input the entries are those of all that it had
  pub entries_read : {T E : Type 0} (told : Result T E) (items : T → List Entry) (reader : Progress) (first before now : Option (List ℕ))
      (bytes piece : List ℕ) (n : ℕ)
      → n ≡ 0
      → length bytes ≤ 2 ^ 30
      → HasRead first before bytes
      → HasRead before now (take n piece)
      → IfSome now (λ left. left ≡ [])
      → HasSeen edition reader (bytes ++ take n piece)
      → IfOk told (λ entries. (text : List ℕ) → HasSeen edition reader text → length text ≤ 2 ^ 30
      → Reads edition text (Ok (items entries)))
      → IfOk told (λ entries. OfRead first (λ text. Reads edition text (Ok (items entries))))
  entries_read (Ok entries) items reader first before now bytes piece n zero short read more ended seen tells = (
    bytes ++ take n piece,
    HasRead-all first now (bytes ++ take n piece) (HasRead-append first before now bytes (take n piece) read more) ended,
    tells (bytes ++ take n piece) seen (still_short bytes piece n zero short),
  )
  entries_read (Err e) items reader first before now bytes piece n zero short read more ended seen tells = tt

  -- .. or the line is that of their first fault
  pub fault_read : {T : Type 0} (told : Result T Unread) (reader : Progress) (first before now : Option (List ℕ))
      (bytes piece : List ℕ) (n : ℕ)
      → n ≡ 0
      → length bytes ≤ 2 ^ 30
      → HasRead first before bytes
      → HasRead before now (take n piece)
      → IfSome now (λ left. left ≡ [])
      → HasSeen edition reader (bytes ++ take n piece)
      → ((line : ℕ) → IsErrOf told (ends.Bad line) → (text : List ℕ) → HasSeen edition reader text → length text ≤ 2 ^ 30
      → Reads edition text (Err line))
      → IfErr told (λ unread. IsFaultOf edition first unread)
  fault_read (Ok entries) reader first before now bytes piece n zero short read more ended seen tells = tt
  fault_read (Err (ends.Bad line)) reader first before now bytes piece n zero short read more ended seen tells = (
    bytes ++ take n piece,
    HasRead-all first now (bytes ++ take n piece) (HasRead-append first before now bytes (take n piece) read more) ended,
    tells line refl (bytes ++ take n piece) seen (still_short bytes piece n zero short),
  )
  fault_read (Err ends.Failed) reader first before now bytes piece n zero short read more ended seen tells = tt
  fault_read (Err ends.Memory) reader first before now bytes piece n zero short read more ended seen tells = tt
