mod StackLemmas
