-- The job that is made of a number and a size.
use Rattle.std.specs.Prelude.{ℕ, ◌+◌, ◌*◌, ◌/◌, ◌^◌, true, false, max, List, [], ◌∷◌, None}
use Rattle.std.specs.Prelude.{find, map, nat_le, replicate, unwrap_or}
use Rattle.sgx_types.specs.declared.names.Perm.{Perm}
use Rattle.job_grammar.specs.declared.jobs.PageLine.{PageLine}
use Rattle.job_grammar.specs.declared.jobs.PageLine.TheVariants.{Tcs, Reg}
use Rattle.job_grammar.specs.Jobs.{EnclaveView, JobView, default_marks}
use Rattle.job_make.specs.MadeOps.{made_scripts}

-- ---- the enclave

-- pages that can be read and written
abbrev pub read_write : Perm
read_write = record { r = true; w = true; x = false }

-- the TCS page of a processor, with one state save page
abbrev pub tcs_of : ℕ → PageLine
tcs_of cpu = Tcs cpu (4 + cpu) 1 false

-- a TCS page and a state save page for each of four processors, and from page 8 on as many pages as the size says and one more
abbrev pub made_lines : ℕ → List PageLine
made_lines size = tcs_of 0 ∷ tcs_of 1 ∷ tcs_of 2 ∷ tcs_of 3 ∷ Reg 4 4 read_write 0 false ∷ Reg 8 (size + 1) read_write 5 false ∷ []

-- the bytes of these pages
abbrev pub made_bytes : ℕ → ℕ
made_bytes size = (size + 9) * 4096

-- the sizes that an enclave may have, rising, by the exponents of two
abbrev pub lawful_sizes : List ℕ
lawful_sizes = map (λ k. 2 ^ k) (13 ∷ 14 ∷ 15 ∷ 16 ∷ 17 ∷ 18 ∷ 19 ∷ 20 ∷ 21 ∷ 22 ∷ 23 ∷ 24 ∷ [])

-- the first of them that has room for so many bytes
unfoldable pub least_size : ℕ → ℕ
least_size bytes = unwrap_or (find (nat_le bytes) lawful_sizes) 0

-- the enclave, of which no measurement is expected
abbrev pub made_enclave : ℕ → EnclaveView
made_enclave size = record { base = 0x10000000; size = least_size (made_bytes size); lines = made_lines size; expect = None }

-- ---- the job

-- five frames for eight of the size, and three more, or 32 where that is more
abbrev pub made_epc : ℕ → ℕ
made_epc size = max 32 (5 * size / 8 + 3)

-- one enclave and four processors, with the options of a job that gives none
unfoldable pub made_job : ℕ → ℕ → JobView
made_job number size = record {
  epc = made_epc size;
  marks = default_marks (made_epc size);
  key = replicate 32 0;
  start_epoch = 1;
  start_version = 1;
  enclaves = made_enclave size ∷ [];
  plans = [];
  scripts = made_scripts size 4 0 number;
}
