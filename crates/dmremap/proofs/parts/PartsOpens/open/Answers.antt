use Rattle.dmremap.proofs.Prelude.{inl, refl}
use Rattle.dmremap.proofs.LoadLemmas.{untouched}
use Rattle.dmremap.proofs.OneWhole.{one_opening}
use Rattle.dmremap.proofs.parts.PartsOpens.open.Goals as goal

-- ---- the parts were loaded

pub returns-in-Ok-clause-opened : goal.returns-in-Ok-clause-opened
returns-in-Ok-clause-opened g c = λ held seen. c.in-Ok.ensures.gives.sound

pub returns-in-Ok-clause-open : goal.returns-in-Ok-clause-open
returns-in-Ok-clause-open g c = record { opened = c.in-Ok.ensures.gives.sound; source = c.load.ensures.source; disks = c.load.ensures.disks; paths = refl; images = refl }

pub returns-in-Ok-clause-read : goal.returns-in-Ok-clause-read
returns-in-Ok-clause-read g c = record {
  source = c.load.ensures.source;
  disks = c.load.ensures.disks;
  paths = untouched g.P.Input.past c.args.self.now.paths;
  in_turn = record { paths_asked = inl refl; images_asked = inl refl };
  images = λ held seen. seen;
}

-- ---- the load was refused

pub returns-in-Err-clause-opened : goal.returns-in-Err-clause-opened
returns-in-Err-clause-opened g c = λ held seen. c.in-Err.ensures.gives.refused

pub returns-in-Err-clause-read : goal.returns-in-Err-clause-read
returns-in-Err-clause-read g c = record {
  source = c.load.ensures.source;
  disks = c.load.ensures.disks;
  paths = untouched g.P.Input.past c.args.self.now.paths;
  in_turn = record { paths_asked = inl refl; images_asked = inl refl };
  images = λ held seen. seen;
}

pub returns-in-Err-clause-left : goal.returns-in-Err-clause-left
returns-in-Err-clause-left g c = λ memory. refl

-- ---- at most one opening, a law of the definitions

pub returns-in-Ok-clause-one : goal.returns-in-Ok-clause-one
returns-in-Ok-clause-one g c = λ old new held. one_opening old.format _ _

pub returns-in-Err-clause-one : goal.returns-in-Err-clause-one
returns-in-Err-clause-one g c = λ old new held. one_opening old.format _ _
