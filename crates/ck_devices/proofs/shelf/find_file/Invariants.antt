use Rattle.std.proofs.Common.{◌≡◌, drop}
use Rattle.ck_devices.specs.Files.{file}
use Rattle.ck_devices.proofs.shelf.find_file.Given as goal

abbrev pub invariant-loop-key : goal.invariant-loop-key
invariant-loop-key l = file l.files l.name ≡ file (drop l.key-index l.files) l.name
