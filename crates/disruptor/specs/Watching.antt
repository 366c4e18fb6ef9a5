-- The reader and the writer under those whose bytes are counted.
use Rattle.disruptor.specs.declared.watched.Input.{Input}
use Rattle.disruptor.specs.declared.watched.Output.{Output}

abbrev pub input_of : {R : Type 0} → Input R → R
input_of c = c.inner

abbrev pub output_of : {W : Type 0} → Output W → W
output_of c = c.inner
