-- A word that is printed is a word, and is read again as what it was printed of.
use Rattle.std.proofs.Common.{◌≡◌, ◌==◌, ℕ, ◌*◌, ◌^◌, ◌-◌, ◌<◌, ◌≤◌, Bool, true, false, ltb, List, [], ◌∷◌, subst, sym}
use Rattle.std.proofs.Common.{Some, None, length, decimal, codes, bytes_eq, refl, ap, ◌∙◌, arith, lit≤, inl, inr}
use Rattle.std.proofs.Common.{◌⊎◌}
use Rattle.std.specs.Prelude.{nat_lt}
use Rattle.std.specs.List.{list_all}
use Rattle.std.proofs.lemmas.Bool.{eqb-true, lt-ltb, le-leb, lt-leb, cases_lt, false_from_ne_true, and_from, and_parts}
use Rattle.std.proofs.lemmas.Slice.Eq.{bytes_eq-Decides}
use Rattle.std.proofs.lemmas.Bool.Decides.{nat_tests}
use Rattle.std.proofs.lemmas.Fmt.{digits_is_IsNumeral}
use Rattle.std.specs.Char.{digit_value}
use Rattle.std.specs.Str.Parse.{AllDigits}
use Rattle.hex.specs.Hex.{lower_digits}
use Rattle.hex.proofs.HexLemmas.{length-encode_with}
use Rattle.sgx_types.specs.declared.names.Actor.{Actor}
use Rattle.sgx_types.specs.declared.names.Actor.TheVariants as actors
use Rattle.sgx_rules.specs.declared.entries.Cause.{Cause}
use Rattle.sgx_rules.specs.declared.entries.Cause.TheVariants as causes
use Rattle.sgx_rules.specs.declared.entries.AccessOp.{AccessOp}
use Rattle.sgx_rules.specs.declared.entries.AccessOp.TheVariants as accesses
use Rattle.sgx_rules.specs.declared.entries.PfWhy.{PfWhy}
use Rattle.sgx_rules.specs.declared.entries.PfWhy.TheVariants as faults
use Rattle.sgx_rules.specs.declared.entries.Look.{Look}
use Rattle.sgx_rules.specs.declared.entries.Look.TheVariants as looks
use Rattle.sgx_rules.specs.declared.entries.BusWhy.{BusWhy}
use Rattle.sgx_rules.specs.declared.entries.BusWhy.TheVariants as stops
use Rattle.sgx_types.specs.declared.names.Kind.{Kind}
use Rattle.sgx_types.specs.declared.names.Kind.TheVariants as kinds
use Rattle.sgx_types.specs.declared.names.Perm.{Perm}
use Rattle.text_words.specs.Words.{Words, digest_word, enclave_word, hexadecimal, letter}
use Rattle.text_words.specs.Reading.{letter_of, number_of, numeral_of}
use Rattle.text_words.proofs.Numerals.{number_of-decimal, number_of-hexadecimal}
use Rattle.text_words.proofs.Splits.{AreWords, is_word}
use Rattle.text_words.proofs.WordLaws.{decimal-is_word, digest_of-encode_lower, letter-is_word, letter_of-letter}
use Rattle.text_words.proofs.WordLaws.{small_of-decimal}
use Rattle.sgx_types.specs.declared.names.Page.{Page}
use Rattle.sgx_types.proofs.Truths.{tested}
use Rattle.trace_text.specs.declared.edition.Edition.{Edition}
use Rattle.trace_text.specs.declared.edition.Edition.TheVariants as editions
use Rattle.trace_text.specs.Fields.{Fits, digest, is_lettered_secs, page, page_words}
use Rattle.trace_text.specs.Names.{access_word, cause_word, fault_word, kind_word, look_word, perms_word, stop_word}
use Rattle.trace_text.specs.TraceText.{actor_word}
use Rattle.trace_text.specs.Readable.{FitsActor}
use Rattle.trace_lines.specs.inner.Names.{access_in, cause_in, fault_in, kind_in, look_in, perm_in, stop_in}
use Rattle.trace_lines.specs.inner.WordReading.{actor_of, byte_in, cpu_of, enclave_in, expect_in, frame_in, number_in, page_number_in}
use Rattle.trace_lines.specs.inner.WordReading.{short_in, small_in, tag_in}

-- ---- read again

pub number-read : (n : ℕ) → n < 2 ^ 64 → number_in (decimal n) ≡ n
unfolding number_in
number-read n lt = rw (number_of-decimal n lt) refl

pub address-read : (n : ℕ) → n < 2 ^ 64 → number_in (hexadecimal n) ≡ n
unfolding number_in
address-read n lt = rw (number_of-hexadecimal n lt) refl

pub small-read : (n : ℕ) → n < 2 ^ 32 → small_in (decimal n) ≡ n
unfolding small_in
small-read n lt = rw (small_of-decimal n lt) refl

pub short-read : (n : ℕ) → n < 2 ^ 16 → short_in (decimal n) ≡ n
unfolding short_in
short-read n lt = rw (number-read n (omega arith), lt-ltb n (2 ^ 16) lt) refl

pub byte-read : (n : ℕ) → n < 2 ^ 8 → byte_in (decimal n) ≡ n
unfolding byte_in
byte-read n lt = rw (number-read n (omega arith), lt-ltb n (2 ^ 8) lt) refl

pub frame-read : (n : ℕ) → n < 2 ^ 32 → frame_in (decimal n) ≡ record { 0 = n }
unfolding frame_in
frame-read n lt = rw (small-read n lt) refl

pub cpu-read : (n : ℕ) → n < 16 → cpu_of (decimal n) ≡ Some (record { 0 = n })
unfolding cpu_of
cpu-read n lt = rw (number_of-decimal n (omega arith), lt-ltb n 16 lt) refl

-- no digits are a letter
digits-no-letter : (ds : List ℕ) → AllDigits 10 ds → letter_of ds ≡ None
unfolding letter_of
digits-no-letter [] all = refl
digits-no-letter (c ∷ []) all = let low : digit_value c < 10 = all.0 in grind (arith, nat_tests, low)
digits-no-letter (c ∷ d ∷ ds) all = refl

enclave-digits : (enclave : ℕ) → enclave < 2 ^ 16 → enclave_in (decimal enclave) ≡ enclave
unfolding enclave_in
enclave-digits enclave lt =
    let numeral = digits_is_IsNumeral 10 false (lit≤ tt) (lit≤ tt) enclave (omega arith) in
    rw (digits-no-letter (decimal enclave) numeral.0.1, short-read enclave lt) refl

enclave-letter : (enclave : ℕ) → 1 ≤ enclave → enclave ≤ 8 → enclave_in (letter enclave) ≡ enclave
unfolding enclave_in
enclave-letter enclave low high = rw (letter_of-letter enclave (low, high)) refl

pub enclave-read : (enclave : ℕ) → enclave < 2 ^ 16 → enclave_in (enclave_word enclave) ≡ enclave
enclave-read enclave lt = by_range (cases_lt enclave 1) (cases_lt 8 enclave)
  where
    by_range : (enclave < 1) ⊎ (1 ≤ enclave) → (8 < enclave) ⊎ (enclave ≤ 8) → enclave_in (enclave_word enclave) ≡ enclave
    by_range (inr low) (inr high) = rw (le-leb 1 enclave low, le-leb enclave 8 high) (enclave-letter enclave low high)
    by_range (inl low) high = rw (lt-leb 1 enclave low) (enclave-digits enclave lt)
    by_range (inr low) (inl high) = rw (le-leb 1 enclave low, lt-leb enclave 8 high) (enclave-digits enclave lt)

-- ---- pages

va-read : enclave_in (codes "va") ≡ 0
unfolding enclave_in letter_of short_in number_in number_of numeral_of
va-read = refl

secs-read : page_number_in (codes "secs") ≡ 2 ^ 32 - 1
unfolding page_number_in
secs-read = refl

-- no digits are the name
page_number-read : (n : ℕ) → n < 2 ^ 32 → page_number_in (decimal n) ≡ n
unfolding page_number_in
page_number-read n lt =
    let numeral = digits_is_IsNumeral 10 false (lit≤ tt) (lit≤ tt) n (omega arith) in
    let other : bytes_eq (decimal n) (codes "secs") ≡ false = false_from_ne_true _ (λ e.
    let all : AllDigits 10 (codes "secs") = subst (AllDigits 10) ((bytes_eq-Decides (decimal n) (codes "secs")).0 e) numeral.0.1 in
    let low : 28 < 10 = all.0 in
    omega (arith, low)) in
    rw (other, small-read n lt) refl

-- the two words of a page are read again as its enclave and its number
abbrev pub IsPageRead : Page → Words → Type 0
IsPageRead p (enclave ∷ (number ∷ [])) = (enclave_in enclave ≡ p.enclave) × (page_number_in number ≡ p.number)
IsPageRead p words = ⊥

pub page-read : (edition : Edition) (p : Page) → Fits (page p) → IsPageRead p (page_words edition p)
page-read editions.One p fits = (enclave-read p.enclave fits.0, page_number-read p.number fits.1)
page-read editions.Two p fits = by_kind (tested (p.enclave == 0)) (tested (is_lettered_secs p))
  where
    by_kind : ((p.enclave == 0) ≡ true) ⊎ ((p.enclave == 0) ≡ false) → (is_lettered_secs p ≡ true) ⊎ (is_lettered_secs p ≡ false)
        → IsPageRead p (page_words editions.Two p)
    by_kind (inl va) secs = rw va (va-read ∙ sym (eqb-true p.enclave 0 va), page_number-read p.number fits.1)
    by_kind (inr other) (inl secs) =
        let parts = and_parts (p.number == 2 ^ 32 - 1) (nat_lt p.enclave 9) secs in
        rw (other, secs) (enclave-read p.enclave fits.0, secs-read ∙ sym (eqb-true p.number (2 ^ 32 - 1) parts.0))
    by_kind (inr other) (inr plain) = rw (other, plain) (enclave-read p.enclave fits.0, page_number-read p.number fits.1)

pub tag-read : (bytes : List ℕ) → Fits (digest bytes) → tag_in (digest_word bytes) ≡ bytes
unfolding tag_in
tag-read bytes fits = rw (digest_of-encode_lower bytes fits) refl

pub dash-read : expect_in (codes "-") ≡ None
unfolding expect_in
dash-read = refl

pub expect-read : (bytes : List ℕ) → Fits (digest bytes) → expect_in (digest_word bytes) ≡ Some bytes
unfolding expect_in
expect-read bytes fits =
    let other : bytes_eq (digest_word bytes) (codes "-") ≡ false = false_from_ne_true _ (λ e.
    let same : digest_word bytes ≡ codes "-" = (bytes_eq-Decides (digest_word bytes) (codes "-")).0 e in
    let two : length (digest_word bytes) ≡ 64 = length-encode_with lower_digits bytes ∙ ap (λ (n : ℕ). 2 * n) fits.sized in
    let one : length (digest_word bytes) ≡ 1 = ap length same in
    omega (arith, two, one)) in
    rw (other, tag-read bytes fits) refl

pub actor-read : (actor : Actor) → FitsActor actor → actor_of (actor_word actor) ≡ Some actor
unfolding actor_of
actor-read actors.Builder fits = refl
actor-read actors.Reclaimer fits = refl
actor-read (actors.Cpu p) fits = rw (cpu-read p.0 fits) refl

pub kind-read : (kind : Kind) → kind_in (kind_word kind) ≡ kind
unfolding kind_in
kind-read kinds.Secs = refl
kind-read kinds.Tcs = refl
kind-read kinds.Reg = refl
kind-read kinds.Va = refl

pub cause-read : (cause : Cause) → cause_in (cause_word cause) ≡ cause
unfolding cause_in
cause-read causes.Timer = refl
cause-read causes.Fault = refl
cause-read causes.Kick = refl
cause-read causes.End = refl

pub access-read : (access : AccessOp) → access_in (access_word access) ≡ access
unfolding access_in
access-read accesses.Load = refl
access-read accesses.Store = refl
access-read accesses.Xadd = refl

pub fault-read : (fault : PfWhy) → fault_in (fault_word fault) ≡ fault
unfolding fault_in
fault-read faults.Absent = refl
fault-read faults.WrongType = refl
fault-read faults.NoPerm = refl

pub look-read : (look : Look) → look_in (look_word look) ≡ look
unfolding look_in
look-read looks.Young = refl
look-read looks.Held = refl
look-read looks.NoRoom = refl
look-read looks.Taken = refl

pub stop-read : (stop : BusWhy) → stop_in (stop_word stop) ≡ stop
unfolding stop_in
stop-read stops.GetFailed = refl
stop-read stops.NoRecord = refl
stop-read stops.PutFailed = refl
stop-read stops.Mac = refl
stop-read stops.Header = refl
stop-read stops.Slot = refl

pub perm-read : (perm : Perm) → perm_in (perms_word perm) ≡ perm
unfolding perm_in
perm-read perm = by_bits perm.r perm.w perm.x
  where
    by_bits : (r w x : Bool) → let p : Perm = record { r = r; w = w; x = x } in perm_in (perms_word p) ≡ p
    by_bits true true true = refl
    by_bits true true false = refl
    by_bits true false true = refl
    by_bits true false false = refl
    by_bits false true true = refl
    by_bits false true false = refl
    by_bits false false true = refl
    by_bits false false false = refl

-- ---- words

pub enclave-is_word : (enclave : ℕ) → enclave < 2 ^ 16 → is_word (enclave_word enclave) ≡ true
enclave-is_word enclave lt = by_range (cases_lt enclave 1) (cases_lt 8 enclave)
  where
    by_range : (enclave < 1) ⊎ (1 ≤ enclave) → (8 < enclave) ⊎ (enclave ≤ 8) → is_word (enclave_word enclave) ≡ true
    by_range (inr low) (inr high) = rw (le-leb 1 enclave low, le-leb enclave 8 high) (letter-is_word enclave)
    by_range (inl low) high = rw (lt-leb 1 enclave low) (decimal-is_word enclave (omega arith))
    by_range (inr low) (inl high) = rw (le-leb 1 enclave low, lt-leb enclave 8 high) (decimal-is_word enclave (omega arith))

pub actor-is_word : (actor : Actor) → FitsActor actor → is_word (actor_word actor) ≡ true
actor-is_word actors.Builder fits = refl
actor-is_word actors.Reclaimer fits = refl
actor-is_word (actors.Cpu p) fits =
    let parts = and_parts (ltb 0 (length (decimal p.0))) (list_all (ltb 32) (decimal p.0)) (decimal-is_word p.0 (omega arith)) in
    and_from _ _ (lt-ltb 0 (length (actor_word (actors.Cpu p))) (omega arith)) parts.1

pub kind-is_word : (kind : Kind) → is_word (kind_word kind) ≡ true
kind-is_word kinds.Secs = refl
kind-is_word kinds.Tcs = refl
kind-is_word kinds.Reg = refl
kind-is_word kinds.Va = refl

pub cause-is_word : (cause : Cause) → is_word (cause_word cause) ≡ true
cause-is_word causes.Timer = refl
cause-is_word causes.Fault = refl
cause-is_word causes.Kick = refl
cause-is_word causes.End = refl

pub access-is_word : (access : AccessOp) → is_word (access_word access) ≡ true
access-is_word accesses.Load = refl
access-is_word accesses.Store = refl
access-is_word accesses.Xadd = refl

pub fault-is_word : (fault : PfWhy) → is_word (fault_word fault) ≡ true
fault-is_word faults.Absent = refl
fault-is_word faults.WrongType = refl
fault-is_word faults.NoPerm = refl

pub look-is_word : (look : Look) → is_word (look_word look) ≡ true
look-is_word looks.Young = refl
look-is_word looks.Held = refl
look-is_word looks.NoRoom = refl
look-is_word looks.Taken = refl

pub stop-is_word : (stop : BusWhy) → is_word (stop_word stop) ≡ true
stop-is_word stops.GetFailed = refl
stop-is_word stops.NoRecord = refl
stop-is_word stops.PutFailed = refl
stop-is_word stops.Mac = refl
stop-is_word stops.Header = refl
stop-is_word stops.Slot = refl

pub perm-is_word : (perm : Perm) → is_word (perms_word perm) ≡ true
perm-is_word perm = by_bits perm.r perm.w perm.x
  where
    by_bits : (r w x : Bool) → is_word (perms_word (record { r = r; w = w; x = x })) ≡ true
    by_bits true true true = refl
    by_bits true true false = refl
    by_bits true false true = refl
    by_bits true false false = refl
    by_bits false true true = refl
    by_bits false true false = refl
    by_bits false false true = refl
    by_bits false false false = refl

pub page-are_words : (edition : Edition) (p : Page) → Fits (page p) → AreWords (page_words edition p)
page-are_words editions.One p fits = (enclave-is_word p.enclave fits.0, (decimal-is_word p.number (omega (arith, fits.1)), tt))
page-are_words editions.Two p fits = by_kind (tested (p.enclave == 0)) (tested (is_lettered_secs p))
  where
    by_kind : ((p.enclave == 0) ≡ true) ⊎ ((p.enclave == 0) ≡ false) → (is_lettered_secs p ≡ true) ⊎ (is_lettered_secs p ≡ false)
        → AreWords (page_words editions.Two p)
    by_kind (inl va) secs = rw va (refl, (decimal-is_word p.number (omega (arith, fits.1)), tt))
    by_kind (inr other) (inl secs) = rw (other, secs) (enclave-is_word p.enclave fits.0, (refl, tt))
    by_kind (inr other) (inr plain) =
        rw (other, plain) (enclave-is_word p.enclave fits.0, (decimal-is_word p.number (omega (arith, fits.1)), tt))
