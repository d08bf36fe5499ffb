use Rattle.dm_map.proofs.Prelude.{Device, node}
use Rattle.dm_map.proofs.own.ErrorReads.{error_met, meets_error}
use Rattle.dm_map.proofs.own.KeptRequests.{past_fits}
use Rattle.dm_map.proofs.own.LostSnapshots.{request_gone, request_loses, request_lost, request_whole, write_loses}
use Rattle.dm_map.proofs.own.errors.errors_have_causes.Goals as goal

pub returns : goal.returns
returns c =
    let stack = c.args.stack.now in let sound = c.depth.ensures.sound in
    record {
      reads = λ state device sector fits inside. (meets_error stack state (Device device) sector sound fits inside, error_met stack state (node (Device device) sector) sound);
      writes = λ state lower sector device fits valid. write_loses stack state lower sector device sound fits.count valid;
      requests = λ state op asked start len sectors device fits valid. (
        request_loses stack state op asked start len sectors device sound fits.count valid,
        request_lost stack state op asked start len sectors device sound fits.count,
      );
      whole = λ state op asked start len. request_whole stack state op asked start len;
      stays = λ state op asked start len sectors device gone. request_gone stack state op asked start len sectors device gone;
      fits = λ state op asked start len sectors fits. past_fits stack op state asked start len sectors sound fits;
    }
