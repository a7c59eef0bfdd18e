-- What the words of a line are that say the size of the array.
use Rattle.fpga_text.specs.declared.array_line.SizeLine.{SizeLine}
use Rattle.fpga_text.specs.ArrayLine.{SizeWords}

-- the two words
abbrev pub size_said : SizeLine → SizeWords
size_said line = record { nx = line.nx.now; ny = line.ny.now }
