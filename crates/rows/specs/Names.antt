-- The names of the files of an architecture and a design, which are in a folder.
use Rattle.std.specs.Prelude.{◌++◌, codes}
use Rattle.fpga_problem.specs.Files.{FileNames}
use Rattle.fpga_text.specs.Bytes.{Bytes}

-- a file with this ending
abbrev pub in_folder : (name ending : Bytes) → Bytes
in_folder name ending = codes "problems/" ++ (name ++ ending)

-- each with its ending
abbrev pub design_names : (arch design : Bytes) → FileNames
design_names arch design = record {
  architecture = in_folder arch (codes ".arch");
  netlist = in_folder design (codes ".net");
  placement = in_folder design (codes ".place");
  route = in_folder design (codes ".route");
}
