use Rattle.dm_stream.proofs.runs.Runs.{rest_cut}
use Rattle.dm_stream.proofs.runs.map_run.write_rest.Goals as goal

pub returns-in-WriteFault-clause-wrote : goal.returns-in-WriteFault-clause-wrote
returns-in-WriteFault-clause-wrote g c = λ start outcome moved mapped. rest_cut _ start _ c.args.stack.now c.args.status outcome _ c.args.ending c.in-WriteFault.is moved mapped
