use Rattle.std.proofs.Common.{rules, ◌≡◌, ◌∙◌, ◌++◌, ◌∷◌, [], ℕ, List, length, drop, take, flat_map, append-nil, arith, ap}
use Rattle.std.proofs.lemmas.List.{drop_all, take-append-drop}
use Rattle.sat_text.specs.Printed.{number_text}
use Rattle.sat_text.specs.declared.row.TheConstants.{PIECE_LIMIT, ROW_ROOM}
use Rattle.sat_text.proofs.PieceLemmas.{last-written, none-passed, piece-fails, piece-passed}
use Rattle.sat_text.proofs.row.write_row.Goals as goal

-- nothing stands behind the room
none_behind : (room : List ℕ) → length room ≡ ROW_ROOM → drop ROW_ROOM room ≡ []
none_behind room long = drop_all ROW_ROOM room (omega (arith, long))

-- a piece and those behind it
parts : {T : Type 0} (rest piece others : List T) → piece ≡ take PIECE_LIMIT rest
    → others ≡ drop PIECE_LIMIT rest → piece ++ others ≡ rest
parts rest piece others front back = rw (front, back) (take-append-drop PIECE_LIMIT rest)

-- the text of a piece alone stands at the end of the room
piece_text : (text now before : List ℕ) → now ≡ text ++ before → before ≡ [] → now ≡ text
piece_text text now before put none = put ∙ ap (λ b. text ++ b) none ∙ append-nil text

pub loop-rest-init : goal.loop-rest-init
loop-rest-init g c = record {
  front = none-passed (λ n. number_text (g.T.AsNumber.number n)) c.args.numbers.now _ _;
  long = search (rules, c.told-room);
  created = c.requires;
}

pub returns-in_default : goal.returns-in_default
returns-in_default g c =
    let is = piece_text _ _ _ c.put_numbers-start.ensures.put
    (none_behind c.loop-rest.room c.loop-rest.invariant.long) in
    piece-fails (λ n. number_text (g.T.AsNumber.number n)) c.args.numbers.now
    c.loop-rest.invariant.front _ _
    (parts c.loop-rest.rest.now _ _ c.split_at.ensures.front c.split_at.ensures.back)
    (48 ∷ c.args.last ∷ []) (rw is at c.in_default.ensures)

pub loop-rest-preserved : goal.loop-rest-preserved
loop-rest-preserved g c =
    let is = piece_text _ _ _ c.put_numbers-start.ensures.put
    (none_behind c.loop-rest.room c.loop-rest.invariant.long) in
    record {
      front = piece-passed (λ n. number_text (g.T.AsNumber.number n)) c.args.numbers.now
          c.loop-rest.invariant.front _ _
          (parts c.loop-rest.rest.now _ _ c.split_at.ensures.front c.split_at.ensures.back)
          (rw is at c.in-Ok.ensures);
      long = c.put_numbers-start.array_long;
      created = search rules;
    }

pub returns : goal.returns
returns g c =
    let none = none_behind c.loop-rest.room c.loop-rest.invariant.long in
    let is = c.put_numbers-start-2.ensures.put
    ∙ ap (λ b. flat_map (λ n. number_text (g.T.AsNumber.number n)) c.loop-rest.rest.now ++ b)
    (c.put_byte-end-2.ensures.put ∙ ap (λ b. 48 ∷ b)
    (c.put_byte-end.ensures.put ∙ ap (λ b. c.args.last ∷ b) none)) in
    last-written (λ n. number_text (g.T.AsNumber.number n)) c.args.numbers.now _ _ _
    (48 ∷ c.args.last ∷ []) c.loop-rest.invariant.front (rw is at c.write_from-2.ensures)
