-- What of a file was read as it is opened, and what a real file has as a device.
use Rattle.std.specs.Prelude.{ℕ, List}
use Rattle.dr_journal.specs.Inside.File.{seen_in, left_in, since_in, faults_in}
use Rattle.dr_journal.specs.declared.file.FileDevice.{FileDevice}
use Rattle.dr_journal.specs.declared.opening.Opening.{Opening}

abbrev pub read_so_far : Opening → List ℕ
read_so_far opening = seen_in opening.calls.value

abbrev pub file_seen : FileDevice → List ℕ
file_seen file = seen_in file.calls.value

abbrev pub file_left : FileDevice → List ℕ → Type 0
file_left file = left_in file.calls.value

abbrev pub file_left_since : FileDevice → ℕ → List ℕ → Type 0
file_left_since file = since_in file.calls.value

abbrev pub file_faults : FileDevice → ℕ
file_faults file = faults_in file.calls.value
