-- How names are checked, and what the options of the command do.
use Rattle.std.specs.Prelude.{ℕ, ◌+◌, nat_lt, Bool, true, false, ◌||◌, if◌then◌else◌, List, [], ◌++◌, map}
use Rattle.std.specs.Prelude.{codes}
use Rattle.std.specs.Prelude.{Option, Some, None}
use Rattle.std.specs.Str.{bytes_eq}
use Rattle.std.specs.String.{string_bytes}
use Rattle.gix_validate.specs.declared.path.ComponentOptions.{ComponentOptions}
use Rattle.gix_validate.specs.Component.{all_protections}
use Rattle.gix_validate.specs.Pieces.{pieces}
use Rattle.programs.specs.Accepted.{lists_in, max_lists, names_in}
use Rattle.programs.specs.Arguments.{OptionRule, Effect, Unknown, Sets, NeedsValue, Invalid}
use Rattle.programs.specs.Protections.{protections_of}
use Rattle.git_check_names.specs.declared.options.CheckOptions.{CheckOptions}

-- the options, with the kind and the names that are arguments, and the names to which the rules of Windows do
-- not apply, and how many lists gave these
pub record Options : Type 0 where
  pub protections : ComponentOptions
  pub reads : Bool
  pub nul : Bool
  pub repair : Bool
  pub verbose : Bool
  pub operands : List (List ℕ)
  pub accepted : List (List ℕ)
  pub lists : ℕ

-- the options as the code has them
abbrev pub as_options : CheckOptions → Options
as_options options = record {
  protections = options.protections;
  reads = options.reads;
  nul = options.nul;
  repair = options.repair;
  verbose = options.verbose;
  operands = map string_bytes options.operands.now;
  accepted = names_in options.accepted;
  lists = lists_in options.accepted;
}

-- without options every switch is on, and nothing more
abbrev pub without_options : List (List ℕ) → Options
without_options operands = record {
  protections = all_protections;
  reads = false;
  nul = false;
  repair = false;
  verbose = false;
  operands = operands;
  accepted = [];
  lists = 0;
}

abbrev pub with_reads : Bool → Options → Options
with_reads nul options = record {
  protections = options.protections;
  reads = true;
  nul = nul;
  repair = options.repair;
  verbose = options.verbose;
  operands = options.operands;
  accepted = options.accepted;
  lists = options.lists;
}

abbrev pub with_repair : Options → Options
with_repair options = record {
  protections = options.protections;
  reads = options.reads;
  nul = options.nul;
  repair = true;
  verbose = options.verbose;
  operands = options.operands;
  accepted = options.accepted;
  lists = options.lists;
}

abbrev pub with_words : Options → Options
with_words options = record {
  protections = options.protections;
  reads = options.reads;
  nul = options.nul;
  repair = options.repair;
  verbose = true;
  operands = options.operands;
  accepted = options.accepted;
  lists = options.lists;
}

-- the options with the switches that a list asks for
abbrev pub protected_by : List ℕ → Options → Option ComponentOptions → Effect Options
protected_by list options None = Invalid list (codes "windows, hfs or ntfs, separated by commas, or none")
protected_by list options (Some on) = Sets (record {
  protections = on;
  reads = options.reads;
  nul = options.nul;
  repair = options.repair;
  verbose = options.verbose;
  operands = options.operands;
  accepted = options.accepted;
  lists = options.lists;
})

-- the options with the names of one list more, if there may be one
abbrev pub accepting : List ℕ → Options → Effect Options
accepting list options =
    if nat_lt options.lists max_lists
    then Sets (record {
      protections = options.protections;
      reads = options.reads;
      nul = options.nul;
      repair = options.repair;
      verbose = options.verbose;
      operands = options.operands;
      accepted = options.accepted ++ pieces list;
      lists = options.lists + 1;
    })
    else Invalid list (codes "--accept at most 16 times")

-- what an option does
abbrev pub rule : OptionRule Options
rule name None options =
    if bytes_eq name (codes "--stdin") then Sets (with_reads options.nul options)
    else if bytes_eq name (codes "-z") then Sets (with_reads true options)
    else if bytes_eq name (codes "--repair") then Sets (with_repair options)
    else if bytes_eq name (codes "-v") || bytes_eq name (codes "--verbose") then Sets (with_words options)
    else if bytes_eq name (codes "--protect") || bytes_eq name (codes "--accept") then NeedsValue
    else Unknown
rule name (Some value) options =
    if bytes_eq name (codes "--protect") then protected_by value options (protections_of value)
    else if bytes_eq name (codes "--accept") then accepting value options
    else Unknown
