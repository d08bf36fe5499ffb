use Rattle.dmremap.proofs.Prelude.{refl}
use Rattle.dmremap.proofs.words.program.Goals as goal

pub returns : goal.returns
returns c =
    let mapped = c.with_command-line.ensures _ _ c.program_alone.ensures c.map_command.ensures refl in
    let table = c.with_command-line-2.ensures _ _ mapped c.loading_command.ensures refl in
    let concise = c.with_command-line-3.ensures _ _ table c.loading_command-2.ensures refl in
    let checked = c.with_command-line-4.ensures _ _ concise c.loading_command-3.ensures refl in
    let replayed = c.with_command-line-5.ensures _ _ checked c.replay_command.ensures refl in
    let reading = c.with_command-line-6.ensures _ _ replayed c.reading_command.ensures refl in
    let texts = c.with_command-line-7.ensures _ _ reading c.metadata_command.ensures refl in
    let named = c.with_command-line-8.ensures _ _ texts c.name_command.ensures refl in (
      record { any = c.format_parser-parser.result; images = c.images_parser-images.result },
      record { any = c.format_parser-parser.ensures; images = c.images_parser-images.ensures },
      c.with_command.ensures _ _ named c.split_command.ensures refl,
    )
