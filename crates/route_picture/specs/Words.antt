-- What the words of the command ask for.
use Rattle.std.specs.Prelude.{◌≡◌, ℕ, nat_le, ◌&&◌, List, [], ◌∷◌, Option, Some, None, Result, MatchResult, bytes_eq, codes, option_and_then, option_map, if◌then◌else◌}
use Rattle.std.specs.Option.{option_copied}
use Rattle.fpga_text.specs.Bytes.{Bytes}
use Rattle.fpga_text.specs.Numbers.{whole_number_of}
use Rattle.fpga_types.specs.declared.limits.TheConstants.{REACH_LIMIT, WIDTH_LIMIT}
use Rattle.route_picture.specs.declared.stop.Stop.{Stop}
use Rattle.route_picture.specs.declared.stop.Stop.TheVariants.{Usage}
use Rattle.route_picture.specs.declared.words.FourNames.{FourNames}
use Rattle.route_picture.specs.declared.words.RoutedFile.{RoutedFile}
use Rattle.route_picture.specs.declared.words.Words.{Words}

-- the name of a file with a routing, and the reach within which it is to be legal
pub record RoutedAsked : Type 0 where
  pub file : Bytes
  pub reach : ℕ

-- the names of the four files, the width, the name of a file of names and what is said of a
-- routing, each if there is one
pub record Asked : Type 0 where
  pub arch : Bytes
  pub net : Bytes
  pub place : Bytes
  pub route : Bytes
  pub width : ℕ
  pub names : Option Bytes
  pub routed : Option RoutedAsked

-- the number that a word says, if it is from 1 to a limit
abbrev pub number_said : (limit : ℕ) → Bytes → Option ℕ
number_said limit word =
    option_and_then (λ n. if nat_le 1 n && nat_le n limit then Some n else None)
    (whole_number_of word)

-- these files are asked for at the width that a word says, if it says one
abbrev pub asked_at : (arch net place route word : Bytes) → (names : Option Bytes) →
    (routed : Option RoutedAsked) → Option Asked
asked_at arch net place route word names routed =
    option_map (λ width. record {
      arch = arch;
      net = net;
      place = place;
      route = route;
      width = width;
      names = names;
      routed = routed;
    }) (number_said WIDTH_LIMIT word)

-- the routing in this file is asked for, within the reach that a word says behind `--reach`
abbrev pub routed_said : (file option word : Bytes) → Option RoutedAsked
routed_said file option word = if bytes_eq option (codes "--reach")
    then option_map (λ reach. record { file = file; reach = reach }) (number_said REACH_LIMIT word)
    else None

-- what words ask for: there are five, of which the last says a width, or behind them a file of
-- names, or a file with a routing and its reach
abbrev pub asked : List Bytes → Option Asked
asked (arch ∷ net ∷ place ∷ route ∷ word ∷ []) = asked_at arch net place route word None None
asked (arch ∷ net ∷ place ∷ route ∷ word ∷ names ∷ []) =
    asked_at arch net place route word (Some names) None
asked (arch ∷ net ∷ place ∷ route ∷ word ∷ file ∷ option ∷ reach ∷ []) = option_and_then
    (λ routed. asked_at arch net place route word None (Some routed))
    (routed_said file option reach)
asked _ = None

-- what was read of the words
abbrev pub routed_of : Option RoutedFile → Option RoutedAsked
routed_of routed =
    option_map (λ (r : RoutedFile). record { file = r.file.now; reach = r.reach }) routed

abbrev pub words_said : Words → Asked
words_said words = record {
  arch = words.files.arch.now;
  net = words.files.net.now;
  place = words.files.place.now;
  route = words.files.route.now;
  width = words.width;
  names = option_copied words.names;
  routed = routed_of words.routed;
}

-- these files are asked for at the width that a word says
abbrev pub asked_of : FourNames → (word : Bytes) → (names : Option Bytes) →
    (routed : Option RoutedAsked) → Option Asked
asked_of files word names routed =
    asked_at files.arch.now files.net.now files.place.now files.route.now word names routed

-- words that ask for this are read so, and others are refused as usage
abbrev pub AnswersWords : Option Asked → Result Words Stop → Type 0
AnswersWords wanted result =
    MatchResult result (λ words. wanted ≡ Some (words_said words))
    (λ stop. (wanted ≡ None) × (stop ≡ Usage))
