-- When no cause holds at a line that is printed behind others, by its kind.
use Rattle.std.proofs.Common.{◌≡◌, ◌⊎◌, ℕ, Bool, true, false, Option, Some, None, List, [], inl, inr, refl, ap, ◌∙◌}
use Rattle.std.specs.Prelude.{◌&&◌, ◌||◌, not, nat_lt}
use Rattle.std.specs.List.{list_any}
use Rattle.std.specs.Option.{option_map_or}
use Rattle.std.proofs.Math.Bool.{and-false}
use Rattle.std.proofs.lemmas.Bool.{false≢true}
use Rattle.fpga_graph.specs.GraphOf.{GraphOf}
use Rattle.fpga_types.specs.Fit.{is_out_of_order, is_pin_of}
use Rattle.fpga_types.specs.Fits.{has_net, is_known, is_other_pin, is_other_sink, is_other_source, is_repeated, is_unknown, lacks_sink}
use Rattle.fpga_types.specs.Kinds.{is_channel, is_ipin, is_opin, is_sink, is_source, may_follow}
use Rattle.fpga_types.specs.Terminals.{driver_named, is_input, is_ordinary_pin_at, is_pin_at, is_terminal, named_terminal, sinks_named}
use Rattle.fpga_types.specs.declared.grid.PinAt.{PinAt}
use Rattle.fpga_types.specs.declared.grid.Wire.{Wire}
use Rattle.fpga_types.specs.declared.route.Elem.{Elem}
use Rattle.fpga_types.specs.declared.route.ElemKind.{ElemKind}
use Rattle.fpga_types.specs.declared.route.ElemKind.TheVariants.{Source, Opin, ChanX, ChanY, Ipin, Sink}
use Rattle.fpga_types.specs.declared.route.RouteNet.{RouteNet}
use Rattle.route_reach.specs.Printing.{NetFrame, graph_in, line_behind}
use Rattle.route_reach.specs.Quiet.{IsQuiet}
use Rattle.route_reach.proofs.LineFacts.{channel-kinds}
use Rattle.route_verify.specs.Lines.{JudgedLine, branches_loose, device_in, is_other_again, is_sink_again, is_stray_in, is_unfit, is_wire_of}
use Rattle.route_verify.specs.Reach.{ReachLine}
use Rattle.route_verify.specs.Wiring.{are_unconnected, elem_wire, misses, pin_on, wire_on}

-- none of the codes of the fit holds at a line
pub fit-none : (g : GraphOf) (at : JudgedLine) → is_unknown at.fit ≡ false
    → is_repeated at.fit ≡ false
    → is_other_source at.fit ≡ false → is_other_sink at.fit ≡ false
    → is_sink_again at.fit.route ≡ false → is_other_pin (device_in g) at.fit ≡ false
    → is_other_again at.fit.route ≡ false → branches_loose at ≡ false
    → at.fit.route.taken ≡ false → is_out_of_order at.fit.route ≡ false → is_unfit g at ≡ false
fit-none g at a b c d e f h i j k = λ n. a n || b n || c n || d n || e n || f n || h n || i n
    || j n || k n

-- where there is no wire, nothing misses it, and no wire is parted from it
pub missed-none : (g : GraphOf) (pin : Option PinAt) → misses g pin None ≡ false
missed-none g None = refl
missed-none g (Some pin) = refl

-- what the causes against a line behind others look at, by the line before it, whether it equals
-- one of them, its wire is one of theirs, and how deep the wire two lines before it is
abbrev pub seen_line : NetFrame → (before : List Elem) → Option Elem → (again wire_again : Bool)
    → (depth : Option ℕ) → Elem → ReachLine
seen_line f before previous again wire_again depth e = let net : RouteNet = f.net in record {
  line = record {
    fit = record {
      route = record {
        elem = Some e;
        previous = previous;
        again = again;
        taken = is_pin_of [] e;
        full = false;
        last = false;
        global = net.global;
      };
      known = is_known f.problem net.name net.global;
      repeated = has_net [] net.name;
      driver = driver_named f.problem net.name;
      ends = list_any (is_terminal e) (sinks_named f.problem net.name);
      takes_in = is_input f.problem e;
      lacking = lacks_sink f.problem (line_behind f before e);
    };
    wire_again = wire_again;
    wire_taken = option_map_or (is_wire_of []) (elem_wire e) false;
    stray = is_stray_in f.problem.route.nets net.name e;
  };
  depth = depth;
}

abbrev pub IsQuietSeen : NetFrame → (before : List Elem) → Option Elem → Bool → Bool → Option ℕ
    → Elem → Type 0
IsQuietSeen f before previous again wire_again depth e =
    IsQuiet (graph_in f) f.reach (seen_line f before previous again wire_again depth e)

-- a channel line on a wire of the net's cells, joined to the line before it: on a new wire, or
-- behind a SINK on one of those before
pub record IsNextWire (f : NetFrame) (previous : Option Elem) (again wire_again : Bool) (e : Elem)
    (w : Wire) : Type 0 where
  pub channel : is_channel e.kind ≡ true
  pub on : elem_wire e ≡ Some w
  pub low : nat_lt w.track f.width ≡ true
  pub near : is_stray_in f.problem.route.nets f.net.name e ≡ false
  pub connected : are_unconnected (graph_in f) previous (Some e) ≡ false
  pub order : option_map_or (λ (a : Elem). may_follow a.kind e.kind) previous
      (is_source e.kind) ≡ true
  pub new : ((option_map_or (λ (a : Elem). is_sink a.kind) previous false ≡ false)
      × (wire_again ≡ false))
      ⊎ ((option_map_or (λ (a : Elem). is_sink a.kind) previous false ≡ true)
      × (again ≡ true) × (wire_again ≡ true))

module _ (f : NetFrame) (ordinary : f.net.global ≡ false) where
  -- a line that is not the last of an ordinary net lacks nothing
  not-lacking : (rest : Bool) → (not f.net.global && false && rest) ≡ false
  not-lacking rest = λ i. not (ordinary i) && false && rest

  -- it is in order where it may follow the line before it
  in-order : (order : Bool) → order ≡ true
      → (not f.net.global && (not order || false)) ≡ false
  in-order order is = λ i. not (ordinary i) && (not (is i) || false)

  module _ (before : List Elem) (again wire_again : Bool) (depth : Option ℕ) (e : Elem) where
    abbrev seen : Option Elem → Elem → JudgedLine
    seen previous x = (seen_line f before previous again wire_again depth x).line

    abbrev IsSeen : Option Elem → Elem → Type 0
    IsSeen previous x = IsQuietSeen f before previous again wire_again depth x

    -- the SOURCE comes first, or behind a SINK where it stands before
    pub source-first : option_map_or (is_terminal (record e { kind = Source }))
        (driver_named f.problem f.net.name) false ≡ true → again ≡ false
        → IsSeen None (record e { kind = Source })
    source-first drives new = record {
      connected = refl;
      low = refl;
      alone = refl;
      near = refl;
      new = refl;
      whole = not-lacking _;
      fitting = fit-none (graph_in f)
          (seen None (record e { kind = Source })) refl refl
          (λ i. not (drives i)) refl refl refl (λ i. new i && true) refl refl (in-order true refl);
      short = refl;
    }

    pub source-branch : (a : Elem) → is_sink a.kind ≡ true
        → option_map_or (is_terminal (record e { kind = Source }))
        (driver_named f.problem f.net.name) false ≡ true → again ≡ true
        → IsSeen (Some a) (record e { kind = Source })
    source-branch a sink drives there = go a.kind sink
      where
        go : (k : ElemKind) → is_sink k ≡ true
            → IsSeen (Some (record a { kind = k })) (record e { kind = Source })
        go Sink is = record {
          connected = refl;
          low = refl;
          alone = refl;
          near = refl;
          new = refl;
          whole = not-lacking _;
          fitting = fit-none (graph_in f)
              (seen (Some (record a { kind = Sink })) (record e { kind = Source })) refl refl
              (λ i. not (drives i)) refl refl refl refl (λ i. not (there i && true)) refl
              (in-order true refl);
          short = refl;
        }
        go k is = absurd (false≢true is)

    abbrev opin : Elem
    opin = record e { kind = Opin }

    -- an OPIN of the driver behind the SOURCE where it is new, or behind a SINK where it stands
    -- before
    pub opin-after : (a : Elem) → is_source a.kind ≡ true
        → option_map_or (λ driver. is_ordinary_pin_at f.problem.arch driver opin)
        (driver_named f.problem f.net.name) false ≡ true → again ≡ false
        → IsSeen (Some a) opin
    opin-after a source drives new = go a.kind source
      where
        go : (k : ElemKind) → is_source k ≡ true → IsSeen (Some (record a { kind = k })) opin
        go Source is = record {
          connected = λ i. missed-none (graph_in f) (pin_on (Some opin)) i;
          low = refl;
          alone = refl;
          near = refl;
          new = refl;
          whole = not-lacking _;
          fitting = fit-none (graph_in f)
              (seen (Some (record a { kind = Source })) opin)
              refl refl refl refl refl (λ i. not (drives i) || false || false) (λ i. new i && true)
              refl refl (in-order true refl);
          short = refl;
        }
        go k is = absurd (false≢true is)

    pub opin-branch : (a : Elem) → is_sink a.kind ≡ true
        → option_map_or (λ driver. is_ordinary_pin_at f.problem.arch driver opin)
        (driver_named f.problem f.net.name) false ≡ true → again ≡ true
        → IsSeen (Some a) opin
    opin-branch a sink drives there = go a.kind sink
      where
        go : (k : ElemKind) → is_sink k ≡ true → IsSeen (Some (record a { kind = k })) opin
        go Sink is = record {
          connected = λ i. missed-none (graph_in f) (pin_on (Some opin)) i;
          low = refl;
          alone = refl;
          near = refl;
          new = refl;
          whole = not-lacking _;
          fitting = fit-none (graph_in f)
              (seen (Some (record a { kind = Sink })) opin)
              refl refl refl refl refl (λ i. not (drives i) || false || false) refl
              (λ i. not (there i && true)) refl (in-order true refl);
          short = refl;
        }
        go k is = absurd (false≢true is)

    abbrev ipin : Elem
    ipin = record e { kind = Ipin }

    -- an IPIN behind a channel that it reaches, where it is new
    pub ipin-after : (a : Elem) → is_channel a.kind ≡ true
        → misses (graph_in f) (pin_on (Some ipin)) (wire_on (Some a)) ≡ false
        → is_input f.problem ipin ≡ true → again ≡ false
        → IsSeen (Some a) ipin
    ipin-after a channel reached takes new = go a.kind channel reached
      where
        go : (k : ElemKind) → is_channel k ≡ true
            → misses (graph_in f) (pin_on (Some ipin)) (wire_on (Some (record a { kind = k })))
            ≡ false
            → IsSeen (Some (record a { kind = k })) ipin
        go ChanX is reach = record {
          connected = reach;
          low = refl;
          alone = refl;
          near = refl;
          new = refl;
          whole = not-lacking _;
          fitting = fit-none (graph_in f)
              (seen (Some (record a { kind = ChanX })) ipin)
              refl refl refl refl refl (λ i. not (takes i) || false) (λ i. new i && true) refl refl
              (in-order true refl);
          short = refl;
        }
        go ChanY is reach = record {
          connected = reach;
          low = refl;
          alone = refl;
          near = refl;
          new = refl;
          whole = not-lacking _;
          fitting = fit-none (graph_in f)
              (seen (Some (record a { kind = ChanY })) ipin)
              refl refl refl refl refl (λ i. not (takes i) || false) (λ i. new i && true) refl refl
              (in-order true refl);
          short = refl;
        }
        go k is reach = absurd (false≢true is)

    abbrev sink : Elem
    sink = record e { kind = Sink }

    -- a SINK of the net behind its IPIN, where it is new and the wire before is within the reach
    pub sink-after : (a : Elem) → is_ipin a.kind ≡ true
        → list_any (is_terminal sink) (sinks_named f.problem f.net.name) ≡ true
        → is_pin_at f.problem.arch (named_terminal sink) a ≡ true → again ≡ false
        → option_map_or (λ d. nat_lt f.reach d) depth false ≡ false
        → IsSeen (Some a) sink
    sink-after a pin ends at new low = go a.kind pin at
      where
        go : (k : ElemKind) → is_ipin k ≡ true
            → is_pin_at f.problem.arch (named_terminal sink) (record a { kind = k }) ≡ true
            → IsSeen (Some (record a { kind = k })) sink
        go Ipin is there = record {
          connected = λ i. missed-none (graph_in f) (pin_on (Some (record a { kind = Ipin }))) i
              || false;
          low = refl;
          alone = refl;
          near = refl;
          new = refl;
          whole = not-lacking _;
          fitting = fit-none (graph_in f)
              (seen (Some (record a { kind = Ipin })) sink)
              refl refl refl (λ i. not (ends i)) new (λ i. not (there i)) refl refl refl
              (in-order true refl);
          short = low;
        }
        go k is there = absurd (false≢true is)

  module _ (before : List Elem) (previous : Option Elem) (again wire_again : Bool)
      (depth : Option ℕ) (e : Elem) (w : Wire)
      (next : IsNextWire f previous again wire_again e w) where
    abbrev branch : Bool
    branch = option_map_or (λ (a : Elem). is_sink a.kind) previous false

    k : (is_source e.kind ≡ false) × (is_opin e.kind ≡ false) × (is_ipin e.kind ≡ false)
        × (is_sink e.kind ≡ false)
    k = channel-kinds e.kind next.channel

    not-again : ((branch ≡ false) × (wire_again ≡ false))
        ⊎ ((branch ≡ true) × (again ≡ true) × (wire_again ≡ true))
        → (is_channel e.kind && not branch && (again && (not (is_channel e.kind) || wire_again)))
        ≡ false
    not-again (inl n) =
        (λ i. is_channel e.kind && not branch && (again && (not (next.channel i) || n.1 i)))
        ∙ (λ i. is_channel e.kind && not branch && and-false again i)
        ∙ and-false (is_channel e.kind && not branch)
    not-again (inr n) =
        (λ i. next.channel i && not (n.0 i) && (again && (not (is_channel e.kind) || wire_again)))

    not-loose : ((branch ≡ false) × (wire_again ≡ false))
        ⊎ ((branch ≡ true) × (again ≡ true) × (wire_again ≡ true))
        → (not (is_ipin e.kind) && not (is_sink e.kind) && branch
        && not (again && (not (is_channel e.kind) || wire_again))) ≡ false
    not-loose (inl n) =
        (λ i. not (k.2 i) && not (k.3 i) && n.0 i
        && not (again && (not (is_channel e.kind) || wire_again)))
    not-loose (inr n) =
        (λ i. not (k.2 i) && not (k.3 i) && n.0 i
        && not (n.1 i && (not (next.channel i) || n.2 i)))

    abbrev at : ReachLine
    at = seen_line f before previous again wire_again depth e

    pub channel-seen : IsQuietSeen f before previous again wire_again depth e
    channel-seen = record {
      connected = next.connected;
      low = (λ i. option_map_or (λ (v : Wire). not (nat_lt v.track f.width)) (next.on i) false)
          ∙ ap not next.low;
      alone = λ i. option_map_or (is_wire_of []) (next.on i) false;
      near = next.near;
      new = not-again next.new;
      whole = not-lacking _;
      fitting = fit-none (graph_in f) at.line refl refl
          (λ i. k.0 i && not (option_map_or (is_terminal e)
          (driver_named f.problem f.net.name) false))
          (λ i. k.3 i && not (list_any (is_terminal e) (sinks_named f.problem f.net.name)))
          (λ i. k.3 i && again)
          (λ i. k.1 i && not (option_map_or
          (λ driver. is_ordinary_pin_at f.problem.arch driver e)
          (driver_named f.problem f.net.name) false)
          || k.2 i && not (is_input f.problem e)
          || k.3 i && option_map_or (λ (before : Elem). is_ipin before.kind
          && not (is_pin_at f.problem.arch (named_terminal e) before)) previous false)
          ((λ i. not (is_sink e.kind) && not branch && again && not (next.channel i))
          ∙ and-false (not (is_sink e.kind) && not branch && again))
          (not-loose next.new) refl
          (in-order (option_map_or (λ (a : Elem). may_follow a.kind e.kind) previous
          (is_source e.kind)) next.order);
      short = λ i. k.3 i && option_map_or (λ (a : Elem). is_ipin a.kind) previous false
          && option_map_or (λ d. nat_lt f.reach d) depth false;
    }
