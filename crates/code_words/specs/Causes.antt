-- What each code says, and each cause for which a step of a log is refused.
use Rattle.std.specs.Prelude.{ℕ, List, ◌==◌, ◌/◌, Option, Some, None, if◌then◌else◌}
use Rattle.code_words.specs.Codes.{is_from}
use Rattle.code_words.specs.declared.phrases.TheConstants.{ARCHITECTURE_MISSING_LINE, ARCHITECTURE_MIXED_CLASS, ARCHITECTURE_NOT_UNIFORM, ARCHITECTURE_NO_NUMBER, ARCHITECTURE_NO_PATTERN, ARCHITECTURE_OTHER_WIDTH, ARCHITECTURE_PAST_LIMIT, ARCHITECTURE_PIN_FORM, ARCHITECTURE_REPEATED, ARCHITECTURE_SEGMENT_LENGTH, ARCHITECTURE_SPARSE_SEGMENT, CLAUSE_CLAUSE_COUNT, CLAUSE_CNF_NUMBER, CLAUSE_HEAD_FORM, CLAUSE_SIZE_LIMIT, CLAUSE_VARIABLE, FILE_SIZE, FIT_CELLS_APART, FIT_LOOSE_BRANCH, FIT_MISSING_NET, FIT_OTHER_ARRAY, FIT_OTHER_PIN, FIT_OTHER_SINK, FIT_OTHER_SOURCE, FIT_OUT_OF_ORDER, FIT_PAST_LIMIT, FIT_PIN_APART, FIT_REPEATED_ELEMENT, FIT_REPEATED_NET, FIT_SHARED_PIN, FIT_SINK_NOT_ONCE, FIT_UNKNOWN_NET, JUDGE_MISSING_SINK, JUDGE_NOT_CONNECTED, JUDGE_OFF_TRACE, JUDGE_PAST_REACH, JUDGE_PAST_WIDTH, JUDGE_REPEATED_CELL, JUDGE_REPEATED_WIRE, JUDGE_SHARED_WIRE, JUDGE_UNFIT, LOG_HINT_SIGN, LOG_ID_ORDER, LOG_NUMBER_LIMIT, LOG_STEP_FORM, LOG_STEP_NUMBER, MODEL_BEHIND_END, MODEL_BOTH_WAYS, MODEL_NONE_FOUND, MODEL_NO_END, MODEL_NUMBER, MODEL_VARIABLE, NETLIST_DRIVERS, NETLIST_GLOBAL_PIN, NETLIST_LINE_FORM, NETLIST_NO_PINLIST, NETLIST_NO_SINK, NETLIST_PAST_LIMIT, NETLIST_PIN_COUNT, NETLIST_SAME_NAME, NETLIST_SHARED_CLASS, PLACEMENT_HEAD_FORM, PLACEMENT_MISSING_BLOCK, PLACEMENT_NO_NUMBER, PLACEMENT_PAST_LIMIT, PLACEMENT_REPEATED_BLOCK, PLACEMENT_SHARED_SPOT, PLACEMENT_UNKNOWN_BLOCK, PLACEMENT_UNLAWFUL_PLACE, ROUTE_HEAD_FORM, ROUTE_LINE_FORM, ROUTE_NO_NUMBER, ROUTE_NO_PLACE, ROUTE_PAST_LIMIT, ROUTE_SPANNED_CHANNEL, ROUTE_STRAY_ELEMENT, SIZE_CLAUSES_OF_TURNS, SIZE_FORMULA_CLAUSES, SIZE_GENERATED_NETS, STEP_HINT_BEHIND_THE_LAST, STEP_NO_EMPTY_CLAUSE, STEP_NO_GROUP, STEP_OPEN_HINT, STEP_STRAY_GROUP, STEP_TOO_FEW_HINTS, STEP_TOO_SHORT_GROUP, STEP_TRUE_HINT, STEP_UNKNOWN_DELETION, STEP_UNKNOWN_HINT}

-- a line of an architecture
abbrev pub architecture_phrase : (code : ℕ) → Option (List ℕ)
architecture_phrase code =
    if code == 101 then Some ARCHITECTURE_MISSING_LINE.now else
    if code == 102 then Some ARCHITECTURE_NO_NUMBER.now else
    if code == 103 then Some ARCHITECTURE_PIN_FORM.now else
    if code == 104 then Some ARCHITECTURE_SEGMENT_LENGTH.now else
    if code == 105 then Some ARCHITECTURE_NOT_UNIFORM.now else
    if code == 106 then Some ARCHITECTURE_OTHER_WIDTH.now else
    if code == 107 then Some ARCHITECTURE_NO_PATTERN.now else
    if code == 108 then Some ARCHITECTURE_MIXED_CLASS.now else
    if code == 109 then Some ARCHITECTURE_PAST_LIMIT.now else
    if code == 110 then Some ARCHITECTURE_REPEATED.now else
    if code == 111 then Some ARCHITECTURE_SPARSE_SEGMENT.now else
    None

-- a line of a netlist
abbrev pub netlist_phrase : (code : ℕ) → Option (List ℕ)
netlist_phrase code =
    if code == 201 then Some NETLIST_LINE_FORM.now else
    if code == 202 then Some NETLIST_PIN_COUNT.now else
    if code == 203 then Some NETLIST_SAME_NAME.now else
    if code == 204 then Some NETLIST_DRIVERS.now else
    if code == 205 then Some NETLIST_NO_SINK.now else
    if code == 206 then Some NETLIST_GLOBAL_PIN.now else
    if code == 207 then Some NETLIST_SHARED_CLASS.now else
    if code == 208 then Some NETLIST_NO_PINLIST.now else
    if code == 209 then Some NETLIST_PAST_LIMIT.now else
    None

-- a line of a placement
abbrev pub placement_phrase : (code : ℕ) → Option (List ℕ)
placement_phrase code =
    if code == 301 then Some PLACEMENT_HEAD_FORM.now else
    if code == 302 then Some PLACEMENT_NO_NUMBER.now else
    if code == 303 then Some PLACEMENT_UNKNOWN_BLOCK.now else
    if code == 304 then Some PLACEMENT_REPEATED_BLOCK.now else
    if code == 305 then Some PLACEMENT_MISSING_BLOCK.now else
    if code == 306 then Some PLACEMENT_UNLAWFUL_PLACE.now else
    if code == 307 then Some PLACEMENT_SHARED_SPOT.now else
    if code == 308 then Some PLACEMENT_PAST_LIMIT.now else
    None

-- a line of a route
abbrev pub route_phrase : (code : ℕ) → Option (List ℕ)
route_phrase code =
    if code == 401 then Some ROUTE_HEAD_FORM.now else
    if code == 402 then Some ROUTE_LINE_FORM.now else
    if code == 403 then Some ROUTE_NO_NUMBER.now else
    if code == 404 then Some ROUTE_SPANNED_CHANNEL.now else
    if code == 405 then Some ROUTE_STRAY_ELEMENT.now else
    if code == 406 then Some ROUTE_NO_PLACE.now else
    if code == 407 then Some ROUTE_PAST_LIMIT.now else
    None

-- a line of a route that does not fit
abbrev pub fit_phrase : (code : ℕ) → Option (List ℕ)
fit_phrase code =
    if code == 501 then Some FIT_OTHER_ARRAY.now else
    if code == 502 then Some FIT_MISSING_NET.now else
    if code == 503 then Some FIT_UNKNOWN_NET.now else
    if code == 504 then Some FIT_REPEATED_NET.now else
    if code == 505 then Some FIT_OTHER_SOURCE.now else
    if code == 506 then Some FIT_OTHER_SINK.now else
    if code == 507 then Some FIT_SINK_NOT_ONCE.now else
    if code == 508 then Some FIT_OTHER_PIN.now else
    if code == 509 then Some FIT_PIN_APART.now else
    if code == 510 then Some FIT_CELLS_APART.now else
    if code == 511 then Some FIT_REPEATED_ELEMENT.now else
    if code == 512 then Some FIT_LOOSE_BRANCH.now else
    if code == 513 then Some FIT_SHARED_PIN.now else
    if code == 514 then Some FIT_OUT_OF_ORDER.now else
    if code == 515 then Some FIT_PAST_LIMIT.now else
    None

-- a line of clauses
abbrev pub clause_phrase : (code : ℕ) → Option (List ℕ)
clause_phrase code =
    if code == 601 then Some CLAUSE_HEAD_FORM.now else
    if code == 602 then Some CLAUSE_CNF_NUMBER.now else
    if code == 603 then Some CLAUSE_VARIABLE.now else
    if code == 604 then Some CLAUSE_CLAUSE_COUNT.now else
    if code == 605 then Some CLAUSE_SIZE_LIMIT.now else
    None

-- a line of a log
abbrev pub log_phrase : (code : ℕ) → Option (List ℕ)
log_phrase code =
    if code == 701 then Some LOG_STEP_NUMBER.now else
    if code == 702 then Some LOG_STEP_FORM.now else
    if code == 703 then Some LOG_ID_ORDER.now else
    if code == 704 then Some LOG_HINT_SIGN.now else
    if code == 705 then Some LOG_NUMBER_LIMIT.now else
    None

-- a line of a routed file
abbrev pub judge_phrase : (code : ℕ) → Option (List ℕ)
judge_phrase code =
    if code == 801 then Some JUDGE_NOT_CONNECTED.now else
    if code == 802 then Some JUDGE_PAST_WIDTH.now else
    if code == 803 then Some JUDGE_SHARED_WIRE.now else
    if code == 804 then Some JUDGE_OFF_TRACE.now else
    if code == 805 then Some JUDGE_REPEATED_CELL.now else
    if code == 806 then Some JUDGE_MISSING_SINK.now else
    if code == 807 then Some JUDGE_UNFIT.now else
    if code == 808 then Some JUDGE_PAST_REACH.now else
    None

-- a line of a model
abbrev pub model_phrase : (code : ℕ) → Option (List ℕ)
model_phrase code =
    if code == 1001 then Some MODEL_NONE_FOUND.now else
    if code == 1002 then Some MODEL_NUMBER.now else
    if code == 1003 then Some MODEL_BEHIND_END.now else
    if code == 1004 then Some MODEL_VARIABLE.now else
    if code == 1005 then Some MODEL_BOTH_WAYS.now else
    if code == 1006 then Some MODEL_NO_END.now else
    None

-- a size that passes its limit
abbrev pub size_phrase : (code : ℕ) → Option (List ℕ)
size_phrase code =
    if code == 901 then Some SIZE_FORMULA_CLAUSES.now else
    if code == 903 then Some SIZE_GENERATED_NETS.now else
    if code == 904 then Some SIZE_CLAUSES_OF_TURNS.now else
    if is_from 911 918 code then Some FILE_SIZE.now else
    None

-- what a code says of the line that is told with it, or of the number that passes a limit
abbrev pub cause_phrase : (code : ℕ) → Option (List ℕ)
cause_phrase code =
    if code / 100 == 1 then architecture_phrase code else
    if code / 100 == 2 then netlist_phrase code else
    if code / 100 == 3 then placement_phrase code else
    if code / 100 == 4 then route_phrase code else
    if code / 100 == 5 then fit_phrase code else
    if code / 100 == 6 then clause_phrase code else
    if code / 100 == 7 then log_phrase code else
    if code / 100 == 8 then judge_phrase code else
    if code / 100 == 10 then model_phrase code else
    size_phrase code

-- what it says where a routed file is judged within a reach
abbrev pub within_reach_phrase : (code : ℕ) → Option (List ℕ)
within_reach_phrase code =
    if code == 805 then Some JUDGE_REPEATED_WIRE.now else cause_phrase code

-- why a step of a log is refused
abbrev pub refusal_phrase : (cause : ℕ) → Option (List ℕ)
refusal_phrase cause =
    if cause == 1 then Some STEP_UNKNOWN_HINT.now else
    if cause == 2 then Some STEP_OPEN_HINT.now else
    if cause == 3 then Some STEP_TRUE_HINT.now else
    if cause == 4 then Some STEP_TOO_FEW_HINTS.now else
    if cause == 5 then Some STEP_HINT_BEHIND_THE_LAST.now else
    if cause == 6 then Some STEP_UNKNOWN_DELETION.now else
    if cause == 7 then Some STEP_NO_EMPTY_CLAUSE.now else
    if cause == 8 then Some STEP_NO_GROUP.now else
    if cause == 9 then Some STEP_STRAY_GROUP.now else
    if cause == 10 then Some STEP_TOO_SHORT_GROUP.now else
    None
