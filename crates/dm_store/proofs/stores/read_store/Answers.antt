use Rattle.dm_store.proofs.Prelude.{Result, Ok, ap, ◌∙◌, MapperView, State, Taken, lost, none_taken, put, taken_at, taken_same, StoreFault, disk_contents, told_list, store_sectors, taken_in, Holds, Lost, listed, stored}
use Rattle.dm_store.proofs.StoreLemmas.{list_told}
use Rattle.dm_store.proofs.stores.read_store.Goals as goal
use Rattle.std.specs.Prelude.{◌≡◌}

pub returns-in-Lost-clause-stored : goal.returns-in-Lost-clause-stored
returns-in-Lost-clause-stored g c = λ held seen.
    let store = c.args.store.now in
    let sectors = store_sectors c.args.mapper.now.stack (disk_contents c.args.places.now held) store in
    let says : Lost ≡ stored sectors store = rw c.in-Lost.is at (c.in_ok-header_of.ensures.header held seen (listed sectors store)) in
    let before : State = c.args.mapper.now.state in
    let after : c.lose.new.self.state ≡ put before c.args.device (lost none_taken) =
    ap (λ (m : MapperView). m.state) c.lose.ensures ∙ ap (λ (m : MapperView). put m.state c.args.device (lost (taken_at m.state c.args.device))) c.header_of.ensures.same
    ∙ ap (λ (t : Taken). put before c.args.device (lost t)) c.requires.none in
    let taken : taken_at c.lose.new.self.state c.args.device ≡ lost none_taken = ap (λ (s : State). taken_at s c.args.device) after ∙ taken_same before c.args.device (lost none_taken) c.requires.there in
    ap (λ (t : Taken). let r : Result Taken StoreFault = Ok t in r) taken ∙ ap taken_in says

pub returns-in-Used-clause-stored : goal.returns-in-Used-clause-stored
returns-in-Used-clause-stored g c = λ held seen.
    let store = c.args.store.now in let disks = disk_contents c.args.places.now held in
    let sectors = store_sectors c.args.mapper.now.stack disks store in
    let taken : Taken = taken_at c.read_list.new.mapper.state c.args.device in
    let says : listed sectors store ≡ stored sectors store = rw c.in-Used.is at (c.in_ok-header_of.ensures.header held (c.read_list.ensures.still held seen) (listed sectors store)) in
    let list : told_list c.read_list.result (Holds taken.chunks) ≡ listed sectors store = c.read_list.ensures.list held seen ∙ ap (λ (m : MapperView). listed (store_sectors m.stack disks store) store) c.header_of.ensures.same in
    list_told c.read_list.result taken c.read_list.ensures.valid ∙ ap taken_in (list ∙ says)
