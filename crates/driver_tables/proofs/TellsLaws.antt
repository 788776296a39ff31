-- Where driver and machine agree, tables and machine tell the entries.
use Rattle.std.proofs.Common.{◌≤◌, List}
use Rattle.sgx_rules.specs.declared.entries.Entry.{Entry}
use Rattle.sgx_types.specs.Making.{Making}
use Rattle.job_grammar.specs.Jobs.{JobView}
use Rattle.sgx_machine.specs.inner.Parts.{Parts}
use Rattle.driver_laws.specs.inner.Agrees.{drivers}
use Rattle.driver_tables.specs.declared.driver.Driver.{Driver}
use Rattle.driver_tables.specs.inner.Agrees.{Agrees}
use Rattle.driver_tables.specs.inner.Tells.{Tells}

pub agrees_tell : (made : Making) (j : JobView) (past : List Entry) (d : Driver) (m : Parts) → Agrees made j past d m → j.marks.scan ≤ 64
    → Tells (drivers j) made j past d m
agrees_tell made j past d m r short = record {
  follows = r.follows;
  fits = r.fits;
  sound = r.sound;
  used = r.used;
  stand = r.stand;
  built = r.built;
  inits = r.inits;
  theirs = r.theirs;
  tracks = r.tracks;
  pages = r.pages;
  shows = r.shows;
  frames = r.frames;
  cpus = r.cpus;
  short = short;
}
