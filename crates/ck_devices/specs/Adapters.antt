-- What a clause reads of an adapter: the reader or the writer in it, and its failures.
use Rattle.ck_devices.specs.Causes.{Failures}
use Rattle.ck_devices.specs.declared.standard.ReaderSource.{ReaderSource}
use Rattle.ck_devices.specs.declared.standard.WriterSink.{WriterSink}

-- the reader that a source reads
abbrev pub reader_of : {R : Type 0} → ReaderSource R → R
reader_of source = source.inner

-- its failures so far
abbrev pub read_failures : {R : Type 0} → ReaderSource R → Failures
read_failures source = source.uses

-- the writer that a sink writes to
abbrev pub writer_of : {W : Type 0} → WriterSink W → W
writer_of sink = sink.inner

-- its failures so far
abbrev pub write_failures : {W : Type 0} → WriterSink W → Failures
write_failures sink = sink.uses
